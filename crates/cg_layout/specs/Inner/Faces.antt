-- The interfaces of a block with their items.
use Rattle.std.specs.Prelude.{List}
use Rattle.cg_desc.specs.declared.block.FaceDesc.{FaceDesc}
use Rattle.cg_desc.specs.declared.block.FaceItems.{FaceItems}
use Rattle.cg_finding.specs.Finding.{Finding, Among}
use Rattle.cg_layout.specs.Violations.{BreaksIn}

-- one of these interfaces breaks it
pub record OneBreaks (faces : List (FaceDesc × FaceItems)) (f : Finding) : Type 0 where
  pub interface : FaceDesc × FaceItems
  pub among : Among interface faces
  pub breaks : BreaksIn interface.0 interface.1.items f
