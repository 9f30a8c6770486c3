-- What expanding a block answers.
use Rattle.std.specs.Prelude.{◌≡◌, List, Result, Ok, Err}
use Rattle.cg_svspec.specs.Printable.{AllOf}
use Rattle.cg_desc.specs.declared.block.FaceItems.{FaceItems}
use Rattle.cg_desc.specs.declared.block.BlockDesc.{BlockDesc}
use Rattle.cg_desc.specs.declared.fault.DescFault.{DescFault}
use Rattle.cg_desc.specs.Items.{items_of_block}
use Rattle.cg_desc.specs.Valid.{IsValidItem}
use Rattle.cg_finding.specs.Finding.{Finding}
use Rattle.cg_finding.specs.Violations.{RefusesFirst}
use Rattle.cg_expand.specs.Violations.{Violates}

-- the block's items, where it breaks none of the rules; else the first that it breaks
abbrev pub Expands : Result (List FaceItems) DescFault → BlockDesc → Type 0
Expands (Ok faces) b = ((f : Finding) → ¬ Violates b f) × (faces ≡ items_of_block b)
Expands (Err fault) b = RefusesFirst fault b.file (Violates b)

-- the items of each interface are valid
abbrev pub HasValidItems : FaceItems → Type 0
HasValidItems face = AllOf IsValidItem face.items
