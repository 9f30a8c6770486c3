use Rattle.cg_blkdone.proofs.ReadBlocks.{completed_back}
use Rattle.cg_blkdone.proofs.completed_reads_back.Goals as goal

pub returns : goal.returns
returns c = completed_back
