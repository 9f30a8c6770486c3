use Rattle.cg_done.proofs.Same.{completes}
use Rattle.cg_done.proofs.completed_top_is_same.Goals as goal

pub returns : goal.returns
returns c = completes
