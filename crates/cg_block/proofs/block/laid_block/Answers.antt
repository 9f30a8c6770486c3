use Rattle.cg_block.proofs.FirstOnes.{keys_first}
use Rattle.cg_block.proofs.block.laid_block.Goals as goal

-- a key or a value is broken
pub returns-in-Err-clause-finds : goal.returns-in-Err-clause-finds
returns-in-Err-clause-finds c = keys_first c.args.file c.args.tree.now _ c.in-Err.ensures.reads
