-- Tables of what is kept of the ranges of a crossbar's nodes.
use Rattle.std.specs.Prelude.{ℕ, ◌≡◌, ◌<◌, ◌⊎◌, ◌↔◌, List, [], ◌∷◌, length, map, get_or, slice_get, Option, Some, None}
use Rattle.cg_desc.specs.Ends.{CrossbarIs}
use Rattle.cg_desc.specs.Merged.{design_of, FaceAt, BaseIs}
use Rattle.cg_desc.specs.Reach.{HasRanges, HaveRanges, Nests}
use Rattle.cg_desc.specs.declared.block.LaidFace.{LaidFace}
use Rattle.cg_desc.specs.declared.crossbar.Range.{Range}
use Rattle.cg_desc.specs.declared.crossbar.NodeRanges.{NodeRanges}
use Rattle.cg_desc.specs.declared.crossbar.XbarDesc.{XbarDesc}
use Rattle.cg_desc.specs.declared.top.MergedTop.{MergedTop}
use Rattle.cg_space.specs.Inner.Coverages.{IsCoverage}
use Rattle.cg_space.specs.Inner.Graph.{IsLink}
use Rattle.cg_space.specs.Inner.Sound.{IsDeviceAt, IsHostAt}
use Rattle.cg_space.specs.declared.coverage.Coverage.{Coverage}

-- the number, where there is one
abbrev pub those : Option ℕ → List ℕ
those None = []
those (Some y) = y ∷ []

-- which crossbars stand in which as devices
pub record AreLinks (m : MergedTop) (links : List (List ℕ)) : Type 0 where
  pub count : length links ≡ length m.xbars
  pub each : (x y : ℕ) → IsLink links x y ↔ Nests m x y

-- the range of device interface f of instance i
pub record IsFaceRange (m : MergedTop) (i f : ℕ) (range : Range) : Type 0 where
  pub face : LaidFace
  pub face_is : FaceAt m i f face
  pub base : ℕ
  pub base_is : BaseIs m i f base
  pub is : range ≡ record { base = base; size = face.size }

-- device n of crossbar x has ranges of which this is kept
abbrev pub IsKept : MergedTop → ℕ → ℕ → Coverage → Type 0
IsKept m x n c = (rs : List Range) × HasRanges m x n rs × IsCoverage rs c

-- these devices of crossbar x have ranges of which this is kept
abbrev pub AreKept : MergedTop → ℕ → List ℕ → Coverage → Type 0
AreKept m x ds c = (rs : List Range) × HaveRanges m x ds rs × IsCoverage rs c

-- what is kept of node n of crossbar x: of a device as it is, and of a host no ranges
pub record IsEntry (m : MergedTop) (x n : ℕ) (c : Coverage) : Type 0 where
  pub device : IsDeviceAt m x n → IsKept m x n c
  pub host : IsHostAt m x n → c.ranges ≡ []

-- what is kept of each node of crossbar x
pub record IsTable (m : MergedTop) (x : ℕ) (table : List Coverage) : Type 0 where
  pub count : (xbar : XbarDesc) → CrossbarIs (design_of m) x xbar → length table ≡ length xbar.nodes
  pub each : (n : ℕ) (c : Coverage) → slice_get table n ≡ Some c → IsEntry m x n c

-- the ranks fall from a crossbar to those that stand in it as devices
abbrev pub RanksFall : MergedTop → List ℕ → Type 0
RanksFall m ranks = (x y : ℕ) → Nests m x y → get_or ranks y 0 < get_or ranks x 0

-- crossbars of a rank below r, and of rank r those below this number, have their tables
abbrev pub RightBelow : MergedTop → List ℕ → List (List Coverage) → ℕ → ℕ → Type 0
RightBelow m ranks tables r number =
    (x : ℕ) → x < length m.xbars → (get_or ranks x 0 < r) ⊎ ((get_or ranks x 0 ≡ r) × (x < number)) → IsTable m x (get_or tables x [])

-- each crossbar has its table
pub record AreTables (m : MergedTop) (tables : List (List Coverage)) : Type 0 where
  pub count : length tables ≡ length m.xbars
  pub each : (x : ℕ) → x < length m.xbars → IsTable m x (get_or tables x [])

-- the ranges that are kept of each node
abbrev pub entries_of : List Coverage → List NodeRanges
entries_of table = map (λ c. record { ranges = c.ranges }) table
