use Rattle.cg_blkdone.proofs.ReadBlocks.{described_by_file}
use Rattle.cg_rows_texts.proofs.completed.completed.Goals as goal

pub done_block-requires-clause-described : goal.done_block-requires-clause-described
done_block-requires-clause-described c = described_by_file _ 0 _ c.in_ok-block.ensures.reads.1
