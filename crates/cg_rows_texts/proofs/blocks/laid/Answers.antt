use Rattle.cg_block.proofs.Modules.{is_named}
use Rattle.cg_rows_texts.proofs.blocks.laid.Goals as goal

pub returns : goal.returns
returns c = is_named _ _ c.in_ok-laid.ensures.valid c.in_ok-laid.ensures.finds.is_laid c.in_ok-laid.ensures.laid
