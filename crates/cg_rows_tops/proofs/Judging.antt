-- A merged top is one that is numbered, tied and pinned.
use Rattle.std.proofs.Common.{ℕ, ◌≤◌, length}
use Rattle.cg_desc.specs.Merged.{IsMerged, IsValidMerged, of_top}
use Rattle.cg_desc.specs.declared.top.MergedTop.{MergedTop}
use Rattle.cg_irq.specs.Instances.{HasBlocks}
use Rattle.cg_irq.proofs.OneNumbering.{has_blocks}

pub has_its_blocks : (m : MergedTop) → IsMerged m → HasBlocks m
has_its_blocks m merged = has_blocks m (of_top merged)

pub few_crossbars : (m : MergedTop) → IsMerged m → length m.top.xbars ≤ 16
few_crossbars m merged = merged.top.few_crossbars

pub few_pads : (m : MergedTop) → IsMerged m → length m.top.pads ≤ 256
few_pads m merged = merged.top.few_pads
