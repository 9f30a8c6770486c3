use Rattle.cg_block.proofs.FirstOnes.{layout_first}
use Rattle.cg_block.proofs.unit.unit_of.Goals as goal

-- the layout is broken
pub returns-in-Err-clause-finds : goal.returns-in-Err-clause-finds
returns-in-Err-clause-finds c = layout_first c.args.file c.args.tree _ c.in-Err.ensures.finds
