use Rattle.std.proofs.Common.{sym}
use Rattle.cg_sveval.proofs.BitSteps.{lengths_apart}
use Rattle.cg_sveval.proofs.bits.are_same.Goals as goal

pub returns-then-left-right : goal.returns-then-left-right
returns-then-left-right c = sym (lengths_apart c.args.left.now c.args.right.now c.if-left-right.true)
