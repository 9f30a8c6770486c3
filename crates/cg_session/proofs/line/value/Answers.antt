use Rattle.std.proofs.Common.{◌∙◌, sym}
use Rattle.cg_session.proofs.LineBytes.{parsed}
use Rattle.cg_session.proofs.line.value.Goals as goal

pub returns-in-Ok : goal.returns-in-Ok
returns-in-Ok c = let e = sym c.in-Ok.is ∙ parsed c.args.digits.now c.parse.result c.requires c.parse.ensures.value.0 in cc

pub returns-in-Err : goal.returns-in-Err
returns-in-Err c = let e = sym c.in-Err.is ∙ parsed c.args.digits.now c.parse.result c.requires c.parse.ensures.value.0 in cc
