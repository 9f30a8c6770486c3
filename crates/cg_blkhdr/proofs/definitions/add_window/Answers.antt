use Rattle.cg_blkhdr.proofs.Lists.{two_and_more}
use Rattle.cg_blkhdr.proofs.definitions.add_window.Goals as goal

pub returns : goal.returns
returns c = two_and_more _ _ _ _ _ _ _ c.in_ok-add_hexadecimal.ensures c.in_ok-add_decimal.ensures c.in_ok-add_hexadecimal-2.ensures
