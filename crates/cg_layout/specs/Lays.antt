-- What laying a block out answers.
use Rattle.std.specs.Prelude.{◌≡◌, List, [], ◌∷◌, Result, Ok, Err}
use Rattle.cg_desc.specs.declared.block.FaceDesc.{FaceDesc}
use Rattle.cg_desc.specs.declared.block.FaceItems.{FaceItems}
use Rattle.cg_desc.specs.declared.block.LaidFace.{LaidFace}
use Rattle.cg_desc.specs.declared.block.LaidBlock.{LaidBlock}
use Rattle.cg_desc.specs.declared.block.BlockDesc.{BlockDesc}
use Rattle.cg_desc.specs.declared.fault.DescFault.{DescFault}
use Rattle.cg_desc.specs.Items.{items_of_block}
use Rattle.cg_desc.specs.Offsets.{IsLaidOut}
use Rattle.cg_finding.specs.Finding.{Finding}
use Rattle.cg_finding.specs.Violations.{RefusesFirst}
use Rattle.cg_layout.specs.Violations.{Violates}

-- each interface has its name, and its items at their offsets
abbrev pub AreLaidOut : List FaceDesc → List FaceItems → List LaidFace → Type 0
AreLaidOut (face ∷ faces) (items ∷ more) (laid ∷ laids) = (laid.name ≡ face.name) × IsLaidOut items.items laid × AreLaidOut faces more laids
AreLaidOut [] [] [] = Unit {0}
AreLaidOut _ _ _ = ⊥

pub record IsLaidBlock (b : BlockDesc) (l : LaidBlock) : Type 0 where
  pub description : l.desc ≡ b
  pub interfaces : AreLaidOut b.faces (items_of_block b) l.faces

-- the block laid out, where it breaks none of the rules; else the first that it breaks
abbrev pub Lays : Result LaidBlock DescFault → BlockDesc → Type 0
Lays (Ok laid) b = ((f : Finding) → ¬ Violates b f) × IsLaidBlock b laid
Lays (Err fault) b = RefusesFirst fault b.file (Violates b)
