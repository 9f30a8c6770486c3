-- In which address space a device interface of an instance is, and its base there (OpenTitan Top Generation Tool).
use Rattle.std.specs.Prelude.{◌≡◌, ℕ, ◌<◌, ◌&&◌, eqb, Bool, cond, List, [], ◌∷◌, codes, length, slice_get, Option, Some, None}
use Rattle.std.specs.Str.{bytes_eq}
use Rattle.cg_desc.specs.Top.{Design}
use Rattle.cg_desc.specs.Ends.{IsOf, NodeOf, NamesFace}
use Rattle.cg_desc.specs.declared.block.LaidBlock.{LaidBlock}
use Rattle.cg_desc.specs.declared.block.LaidFace.{LaidFace}
use Rattle.cg_desc.specs.declared.crossbar.NodeDesc.{NodeDesc}
use Rattle.cg_desc.specs.declared.top.SpaceBase.{SpaceBase}
use Rattle.cg_desc.specs.declared.top.FaceBase.{FaceBase}
use Rattle.cg_desc.specs.declared.top.SpaceDesc.{SpaceDesc}
use Rattle.cg_desc.specs.declared.top.InstDesc.{InstDesc}
use Rattle.cg_desc.specs.declared.top.XbarUse.{XbarUse}

-- ---- spaces

-- crossbar x has a node that names device interface f of instance i
abbrev pub HasNodeFor : Design → ℕ → ℕ → ℕ → Type 0
HasNodeFor d x i f = (n : ℕ) × (node : NodeDesc) × NodeOf d x n node × NamesFace d node i f

-- A device interface is in the space of the first crossbar that has a node for it, and in the first space that the top lists where none
-- has one.
pub data IsInSpace (d : Design) (i f : ℕ) : List ℕ → Type 0 where
  of_crossbar : (x : ℕ) (listed : XbarUse) → slice_get d.top.xbars x ≡ Some listed → HasNodeFor d x i f
      → ((y : ℕ) → y < x → HasNodeFor d y i f → ⊥) → IsInSpace d i f listed.space
  of_top : (space : SpaceDesc) → slice_get d.top.spaces 0 ≡ Some space → ((x : ℕ) → HasNodeFor d x i f → ⊥) → IsInSpace d i f space.name

-- ---- bases

-- the base that is written for an instance in a space
abbrev pub written_base : List SpaceBase → List ℕ → Option ℕ
written_base [] space = None
written_base (b ∷ bs) space = cond (bytes_eq b.space space) (Some b.base) (written_base bs space)

-- the one that is written for an interface's key
abbrev pub written_face_base : List FaceBase → List ℕ → List ℕ → Option ℕ
written_face_base [] face space = None
written_face_base (b ∷ bs) face space = cond (bytes_eq b.face face && bytes_eq b.space space) (Some b.base) (written_face_base bs face space)

-- the first, or the second where there is none
abbrev pub or_else : Option ℕ → Option ℕ → Option ℕ
or_else (Some base) other = Some base
or_else None other = other

-- the base that is written under the interface's own name
abbrev pub own_base : InstDesc → Option (List ℕ) → List ℕ → Option ℕ
own_base inst None space = None
own_base inst (Some name) space = written_face_base inst.bases name space

-- The base of an interface in a space: the one under its own name; else, where it is the only one, the one of the instance; else, where it
-- is the only one, the one under `null`.
abbrev pub base_in : InstDesc → Bool → Option (List ℕ) → List ℕ → Option ℕ
base_in inst is_sole name space =
    or_else (own_base inst name space) (cond is_sole (or_else (written_base inst.base space) (written_face_base inst.bases (codes "null") space)) None)

-- the block has one device interface
abbrev pub has_one_face : LaidBlock → Bool
has_one_face block = eqb (length block.faces) 1

-- device interface f of instance i has this base in its space
pub record HasBase (d : Design) (i f base : ℕ) : Type 0 where
  pub inst : InstDesc
  pub block : LaidBlock
  pub is : IsOf d i inst block
  pub face : LaidFace
  pub face_is : slice_get block.faces f ≡ Some face
  pub space : List ℕ
  pub in_space : IsInSpace d i f space
  pub base_is : base_in inst (has_one_face block) face.name space ≡ Some base
