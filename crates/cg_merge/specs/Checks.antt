-- What a walk over items tells.
use Rattle.std.specs.Prelude.{◌≡◌, ℕ, ◌<◌, List, length, slice_get, Some}
use Rattle.cg_svspec.specs.Printable.{AllOf}
use Rattle.cg_desc.specs.Crossbar.{IsValidCrossbar}
use Rattle.cg_desc.specs.Ends.{IsOf}
use Rattle.cg_desc.specs.Merged.{AreKinds, BaseIs, IsListed, IsValidLaidBlock, design_of}
use Rattle.cg_desc.specs.Top.{AreItsFiles, IsValidTop}
use Rattle.cg_desc.specs.declared.block.LaidBlock.{LaidBlock}
use Rattle.cg_desc.specs.declared.place.At.{At}
use Rattle.cg_desc.specs.declared.top.InstDesc.{InstDesc}
use Rattle.cg_desc.specs.declared.top.MergedTop.{MergedTop}
use Rattle.cg_finding.specs.Rules as rules
use Rattle.cg_finding.specs.Finding.{Finding}

-- one of the items breaks it, each with its number
abbrev pub SomeBreaks : {X : Type 0} → (ℕ → X → Finding → Type 0) → List X → Finding → Type 0
SomeBreaks {X} B xs f = (i : ℕ) × (x : X) × (slice_get xs i ≡ Some x) × B i x f

-- What stands before the rules are read: a valid top with its files, each valid, and the number of each instance's block.
pub record AreRead (m : MergedTop) : Type 0 where
  pub top : IsValidTop m.top
  pub files : AreItsFiles (design_of m)
  pub crossbars : AllOf IsValidCrossbar m.xbars
  pub blocks : AllOf IsValidLaidBlock m.blocks
  pub kinds : AreKinds m

-- a base, or a crossbar, that is written at a place is for a space that is not listed
abbrev pub BreaksListing : MergedTop → At → List ℕ → Finding → Type 0
BreaksListing m at space f = (¬ IsListed m.top space) × (f ≡ rules.bad_space at space)

-- a device interface of instance i has no base
pub record LacksBase (m : MergedTop) (i : ℕ) (inst : InstDesc) : Type 0 where
  pub face : ℕ
  pub block : LaidBlock
  pub is : IsOf (design_of m) i inst block
  pub within : face < length block.faces
  pub none : (base : ℕ) → BaseIs m i face base → ⊥
