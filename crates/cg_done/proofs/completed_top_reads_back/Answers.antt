use Rattle.cg_done.proofs.ReadTops.{completed_back}
use Rattle.cg_done.proofs.completed_top_reads_back.Goals as goal

pub returns : goal.returns
returns c = completed_back
