use Rattle.cg_blkhdr.proofs.Lists.{two_and_more}
use Rattle.cg_blkhdr.proofs.definitions.add_register.Goals as goal

pub returns : goal.returns
returns c =
    rw (← c.reset_word.ensures)
    (two_and_more _ _ _ _ _ _ _ c.in_ok-add_hexadecimal.ensures c.in_ok-add_hexadecimal-2.ensures c.in_ok-add_fields.ensures)
