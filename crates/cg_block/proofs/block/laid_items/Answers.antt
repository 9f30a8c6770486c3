use Rattle.std.proofs.Common.{subst}
use Rattle.cg_layout.specs.Lays.{Lays}
use Rattle.cg_block.proofs.FirstOnes.{items_refused, items_sound, laid_found}
use Rattle.cg_block.proofs.block.laid_items.Goals as goal

-- the items have names of their own, and are laid out or not
pub returns-in-Ok-clause-finds : goal.returns-in-Ok-clause-finds
returns-in-Ok-clause-finds c =
    laid_found _ _ _ (items_sound _ _ _ c.requires.stage c.requires.block c.in-Ok.ensures.expands.0) (subst (Lays c.lay.result) c.requires.block c.lay.ensures.lays)

-- a name or a count is broken
pub returns-in-Err-clause-finds : goal.returns-in-Err-clause-finds
returns-in-Err-clause-finds c = items_refused _ _ _ _ c.requires.stage c.requires.block c.in-Err.ensures.expands
