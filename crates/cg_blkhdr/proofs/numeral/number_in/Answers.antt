use Rattle.std.proofs.Common.{sym, ◌∙◌}
use Rattle.cg_blkhdr.proofs.Numbers.{parsed, refused}
use Rattle.cg_blkhdr.proofs.numeral.number_in.Goals as goal

pub returns-in-Ok : goal.returns-in-Ok
returns-in-Ok c =
    let good = rw c.as_bytes.ensures.value at (sym c.are_digits.ensures ∙ c.if-not-are_digits.false) in
    sym (parsed c.args.base c.in-Ok.value c.args.digits.now c.requires.low good c.in-Ok.ensures.value)

pub returns-in-Err : goal.returns-in-Err
returns-in-Err c =
    let good = rw c.as_bytes.ensures.value at (sym c.are_digits.ensures ∙ c.if-not-are_digits.false) in
    sym (refused c.args.base c.args.digits.now c.requires.low good c.in-Err.ensures.value)
