use Rattle.cg_irq.proofs.OneNumbering.{has_blocks}
use Rattle.cg_irq.proofs.laws.merged_has_blocks.Goals as goal

pub returns : goal.returns
returns c = has_blocks
