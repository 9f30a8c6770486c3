-- A top joined with its crossbars and blocks: what it says of each node, and when it is valid (OpenTitan Top Generation Tool).
use Rattle.std.specs.Prelude.{◌≡◌, ◌≢◌, ℕ, ◌<◌, true, false, List, [], ◌∷◌, length, map, slice_get, Some}
use Rattle.cg_svspec.specs.Links.{spelled}
use Rattle.cg_svspec.specs.Names.{Among}
use Rattle.cg_svspec.specs.Printable.{AllOf, IsSomeOf}
use Rattle.cg_desc.specs.Bases.{HasBase, IsInSpace}
use Rattle.cg_desc.specs.Crossbar.{IsValidCrossbar}
use Rattle.cg_desc.specs.Ends.{InstanceIs, CrossbarIs, BlockIs, IsOf, NodeOf, NamesFace, NamesHost, Joins, StandsFor}
use Rattle.cg_desc.specs.Laid.{IsLaid}
use Rattle.cg_desc.specs.Top.{IsValidTop, Design, AreItsFiles}
use Rattle.cg_desc.specs.Valid.{IsValidBlock}
use Rattle.cg_desc.specs.declared.block.LaidBlock.{LaidBlock}
use Rattle.cg_desc.specs.declared.block.LaidFace.{LaidFace}
use Rattle.cg_desc.specs.declared.crossbar.NodeDesc.{NodeDesc}
use Rattle.cg_desc.specs.declared.crossbar.XbarDesc.{XbarDesc}
use Rattle.cg_desc.specs.declared.top.InstDesc.{InstDesc}
use Rattle.cg_desc.specs.declared.top.MergedTop.{MergedTop}
use Rattle.cg_desc.specs.declared.top.NodeEnd.{NodeEnd}
use Rattle.cg_desc.specs.declared.top.NodeEnd.TheVariants.{Face, Host, Xbar, Outside}
use Rattle.cg_desc.specs.declared.top.SpaceBase.{SpaceBase}
use Rattle.cg_desc.specs.declared.top.FaceBase.{FaceBase}
use Rattle.cg_desc.specs.declared.top.TopDesc.{TopDesc}
use Rattle.cg_desc.specs.declared.top.XbarEnds.{XbarEnds}
use Rattle.cg_desc.specs.declared.top.XbarUse.{XbarUse}

abbrev pub design_of : MergedTop → Design
design_of m = record { top = m.top; xbars = m.xbars; blocks = m.blocks }

-- ---- things of a merged top by their numbers

-- node n of crossbar x is this one
abbrev pub NodeAt : MergedTop → ℕ → ℕ → NodeDesc → Type 0
NodeAt m x n node = NodeOf (design_of m) x n node

-- it stands for this
abbrev pub EndAt : MergedTop → ℕ → ℕ → NodeEnd → Type 0
EndAt m x n e = (ends : XbarEnds) × (slice_get m.ends x ≡ Some ends) × (slice_get ends.ends n ≡ Some e)

-- instance i is of this block
abbrev pub BlockAt : MergedTop → ℕ → LaidBlock → Type 0
BlockAt m i block = (k : ℕ) × (slice_get m.kinds i ≡ Some k) × (slice_get m.blocks k ≡ Some block)

-- device interface f of instance i is this one
abbrev pub FaceAt : MergedTop → ℕ → ℕ → LaidFace → Type 0
FaceAt m i f face = (block : LaidBlock) × BlockAt m i block × (slice_get block.faces f ≡ Some face)

-- device interface f of instance i has this base
abbrev pub BaseIs : MergedTop → ℕ → ℕ → ℕ → Type 0
BaseIs m i f base = HasBase (design_of m) i f base

-- ---- valid blocks

-- A block is valid, and its interfaces are laid out under their names.
pub record IsValidLaidBlock (b : LaidBlock) : Type 0 where
  pub block : IsValidBlock b.desc
  pub named : map (λ f. f.name) b.faces ≡ map (λ f. f.name) b.desc.faces
  pub laid : AllOf IsLaid b.faces

-- ---- what a top owes its files

-- a space that the top lists
abbrev pub IsListed : TopDesc → List ℕ → Type 0
IsListed top name = Among name (map (λ s. s.name) top.spaces)

-- Address spaces are listed once. Each crossbar, and each base that is written, is for a listed one, and a crossbar that is nested is in
-- the space of the one that it is nested in.
pub record SpacesFit (d : Design) : Type 0 where
  pub differ : (i j : ℕ) (name : List ℕ) → slice_get (map (λ s. s.name) d.top.spaces) i ≡ Some name → slice_get (map (λ s. s.name) d.top.spaces) j ≡ Some name → i ≡ j
  pub crossbars : (listed : XbarUse) → Among listed d.top.xbars → IsListed d.top listed.space
  pub bases : (inst : InstDesc) (b : SpaceBase) → Among inst d.top.insts → Among b inst.base → IsListed d.top b.space
  pub interfaces : (inst : InstDesc) (b : FaceBase) → Among inst d.top.insts → Among b inst.bases → IsListed d.top b.space
  pub nested : (x n y : ℕ) (node : NodeDesc) (outer inner : XbarUse) → NodeOf d x n node → node.host ≡ false → Joins d x node y
      → slice_get d.top.xbars x ≡ Some outer → slice_get d.top.xbars y ≡ Some inner → outer.space ≡ inner.space

-- No two instances have one name, no two crossbars, and no instance and crossbar.
pub record NamesFit (d : Design) : Type 0 where
  pub instances : (i j : ℕ) (a b : InstDesc) → InstanceIs d i a → InstanceIs d j b → a.name ≡ b.name → i ≡ j
  pub crossbars : (x y : ℕ) (a b : XbarDesc) → CrossbarIs d x a → CrossbarIs d y b → a.name ≡ b.name → x ≡ y
  pub apart : (inst : InstDesc) (xbar : XbarDesc) → Among inst d.top.insts → Among xbar d.xbars → inst.name ≢ xbar.name

-- Nodes that stand for no crossbar are spelled in one way in one crossbar alone, and name interfaces of their own. Each node that stands
-- for a crossbar has its partner, and a device that names nothing in the top has a range.
pub record NodesFit (d : Design) : Type 0 where
  pub spelled_once : (x n y k : ℕ) (a b : NodeDesc) → NodeOf d x n a → NodeOf d y k b → a.xbar ≡ false → b.xbar ≡ false → spelled a.name ≡ spelled b.name → x ≡ y
  pub one_face : (x n y k i f : ℕ) (a b : NodeDesc) → NodeOf d x n a → NodeOf d y k b → NamesFace d a i f → NamesFace d b i f → (x ≡ y) × (n ≡ k)
  pub one_host : (x n y k i f : ℕ) (a b : NodeDesc) → NodeOf d x n a → NodeOf d y k b → NamesHost d a i f → NamesHost d b i f → (x ≡ y) × (n ≡ k)
  pub joined : (x n : ℕ) (node : NodeDesc) → NodeOf d x n node → node.xbar ≡ true → (y : ℕ) × Joins d x node y
  pub known : (x n : ℕ) (node : NodeDesc) → NodeOf d x n node → node.host ≡ false → node.xbar ≡ false → ((i f : ℕ) → NamesFace d node i f → ⊥) → IsSomeOf node.ranges

-- each device interface of each instance has a base
abbrev pub BasesFit : Design → Type 0
BasesFit d = (i f : ℕ) (inst : InstDesc) (block : LaidBlock) → IsOf d i inst block → f < length block.faces → (base : ℕ) × HasBase d i f base

-- ---- valid merged tops

-- each instance has the number of its type's block
pub record AreKinds (m : MergedTop) : Type 0 where
  pub count : length m.kinds ≡ length m.top.insts
  pub each : (i k : ℕ) (inst : InstDesc) → InstanceIs (design_of m) i inst → slice_get m.kinds i ≡ Some k → (block : LaidBlock) × BlockIs (design_of m) inst.kind k block

-- each node of each crossbar has what it stands for
pub record AreEnds (m : MergedTop) : Type 0 where
  pub count : length m.ends ≡ length m.xbars
  pub counts : (x : ℕ) (xbar : XbarDesc) (ends : XbarEnds) → CrossbarIs (design_of m) x xbar → slice_get m.ends x ≡ Some ends → length ends.ends ≡ length xbar.nodes
  pub each : (x n : ℕ) (node : NodeDesc) (e : NodeEnd) → NodeAt m x n node → EndAt m x n e → StandsFor (design_of m) x node e

-- What a merged top has: valid files that are the top's, which fit one another, and the numbers and ends that they give.
pub record IsMerged (m : MergedTop) : Type 0 where
  pub top : IsValidTop m.top
  pub files : AreItsFiles (design_of m)
  pub crossbars : AllOf IsValidCrossbar m.xbars
  pub blocks : AllOf IsValidLaidBlock m.blocks
  pub spaces : SpacesFit (design_of m)
  pub names : NamesFit (design_of m)
  pub nodes : NodesFit (design_of m)
  pub bases : BasesFit (design_of m)
  pub kinds : AreKinds m
  pub ends : AreEnds m

-- ---- one crossbar alone

abbrev pub all_outside : List NodeDesc → List NodeEnd
all_outside nodes = map (λ node. Outside) nodes

-- The crossbar without a top: there is no instance, and every node is outside.
abbrev pub alone : XbarDesc → MergedTop
alone x = record {
  top = record { file = x.file; name = []; sources = []; resets = []; spaces = []; insts = []; xbars = []; pads = []; signals = []; at = x.at };
  xbars = x ∷ [];
  blocks = [];
  kinds = [];
  ends = record { ends = all_outside x.nodes } ∷ [];
}

-- What a merged top is: a top with its files, or one crossbar alone.
pub data IsValidMerged (m : MergedTop) : Type 0 where
  of_top : IsMerged m → IsValidMerged m
  of_crossbar : (x : XbarDesc) → IsValidCrossbar x → m ≡ alone x → IsValidMerged m
