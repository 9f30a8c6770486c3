use Rattle.cg_blkdone.proofs.Same.{completes}
use Rattle.cg_blkdone.proofs.completed_is_same.Goals as goal

pub returns : goal.returns
returns c = completes
