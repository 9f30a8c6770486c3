use Rattle.cg_space.proofs.Telling.{tells_flag, tells_no_flag}
use Rattle.cg_space.proofs.told.found_if.Goals as goal

pub returns-then-not-is_broken : goal.returns-then-not-is_broken
returns-then-not-is_broken c = tells_no_flag c.args.is_broken _ c.if-not-is_broken.true

pub returns : goal.returns
returns c = tells_flag c.args.is_broken _ c.if-not-is_broken.false
