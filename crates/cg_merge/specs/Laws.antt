-- The law of merging.
use Rattle.std.specs.Prelude.{◌≡◌}
use Rattle.cg_desc.specs.Merged.{IsMerged, design_of}
use Rattle.cg_desc.specs.declared.top.MergedTop.{MergedTop}

-- two merged tops of the same files are one
abbrev pub MergedIsOne : Type 0
MergedIsOne = (a b : MergedTop) → IsMerged a → IsMerged b → design_of a ≡ design_of b → a ≡ b
