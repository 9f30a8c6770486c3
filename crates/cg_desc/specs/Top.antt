-- A top's description: when it is valid, and the files of its crossbars and blocks (OpenTitan Top Generation Tool).
use Rattle.std.specs.Prelude.{◌≡◌, ◌≢◌, ◌↔◌, ℕ, ◌^◌, ◌<◌, ◌≤◌, List, ◌∷◌, length, map, slice_get, Some}
use Rattle.cg_svspec.specs.Names.{Among}
use Rattle.cg_svspec.specs.Printable.{AllOf}
use Rattle.cg_desc.specs.Valid.{IsShortName}
use Rattle.cg_desc.specs.declared.block.LaidBlock.{LaidBlock}
use Rattle.cg_desc.specs.declared.crossbar.XbarDesc.{XbarDesc}
use Rattle.cg_desc.specs.declared.top.SpaceBase.{SpaceBase}
use Rattle.cg_desc.specs.declared.top.FaceBase.{FaceBase}
use Rattle.cg_desc.specs.declared.top.InstDesc.{InstDesc}
use Rattle.cg_desc.specs.declared.top.XbarUse.{XbarUse}
use Rattle.cg_desc.specs.declared.top.TopDesc.{TopDesc}

-- ---- types, in the order of their first use

-- the type of each instance
abbrev pub type_uses : List InstDesc → List (List ℕ)
type_uses insts = map (λ inst. inst.kind) insts

-- one type is used before another: at a place up to which the other is not used
abbrev pub IsUsedBefore : List InstDesc → List ℕ → List ℕ → Type 0
IsUsedBefore insts a b =
    (i : ℕ) × (slice_get (type_uses insts) i ≡ Some a) × ((j : ℕ) → j ≤ i → slice_get (type_uses insts) j ≢ Some b)

-- The list has exactly the types of the instances, each before all that are first used later, so each once.
pub record AreTypes (insts : List InstDesc) (types : List (List ℕ)) : Type 0 where
  pub members : (t : List ℕ) → Among t types ↔ Among t (type_uses insts)
  pub in_order : (i j : ℕ) (a b : List ℕ) → slice_get types i ≡ Some a → slice_get types j ≡ Some b → i < j → IsUsedBefore insts a b

-- at most 64 types
abbrev pub FewTypes : List InstDesc → Type 0
FewTypes insts = (types : List (List ℕ)) → AreTypes insts types → length types ≤ 64

-- ---- valid descriptions

-- bases are machine words, and no space has two
pub record AreValidBases (bases : List SpaceBase) : Type 0 where
  pub fit : AllOf (λ b. b.base < 2 ^ 32) bases
  pub differ : (i j : ℕ) (a b : SpaceBase) → slice_get bases i ≡ Some a → slice_get bases j ≡ Some b → a.space ≡ b.space → i ≡ j

-- so for each key of an interface
pub record AreValidFaceBases (bases : List FaceBase) : Type 0 where
  pub fit : AllOf (λ b. b.base < 2 ^ 32) bases
  pub differ : (i j : ℕ) (a b : FaceBase) → slice_get bases i ≡ Some a → slice_get bases j ≡ Some b → a.face ≡ b.face → a.space ≡ b.space → i ≡ j

pub record IsValidInstance (inst : InstDesc) : Type 0 where
  pub name : IsShortName inst.name
  pub kind : IsShortName inst.kind
  pub base : AreValidBases inst.base
  pub bases : AreValidFaceBases inst.bases

pub record IsValidUse (x : XbarUse) : Type 0 where
  pub name : IsShortName x.name
  pub space : IsShortName x.space

-- What a top that was read has: good names, and lists within their limits.
pub record IsValidTop (t : TopDesc) : Type 0 where
  pub name : IsShortName t.name
  pub sources : AllOf IsShortName t.sources
  pub resets : AllOf IsShortName t.resets
  pub spaces : AllOf (λ s. IsShortName s.name) t.spaces
  pub some_space : 0 < length t.spaces
  pub few_spaces : length t.spaces ≤ 8
  pub instances : AllOf IsValidInstance t.insts
  pub few_instances : length t.insts ≤ 256
  pub few_types : FewTypes t.insts
  pub crossbars : AllOf IsValidUse t.xbars
  pub few_crossbars : length t.xbars ≤ 16
  pub pads : AllOf IsShortName t.pads
  pub few_pads : length t.pads ≤ 256
  pub few_signals : length t.signals ≤ 1024

-- ---- a top with the files that it names

-- A top with its crossbars, and the blocks of its types, each laid out.
pub record Design : Type 0 where
  pub top : TopDesc
  pub xbars : List XbarDesc
  pub blocks : List LaidBlock

-- The crossbars are those that the top lists, in its order, and the blocks those of its types, in the order of their first use.
pub record AreItsFiles (d : Design) : Type 0 where
  pub crossbars : map (λ x. x.name) d.xbars ≡ map (λ u. u.name) d.top.xbars
  pub blocks : AreTypes d.top.insts (map (λ b. b.desc.name) d.blocks)
