-- Ranges of addresses, and the ranges of a crossbar's devices that count (OpenTitan Crossbar Tool).
use Rattle.std.specs.Prelude.{◌≡◌, ℕ, ◌+◌, ◌*◌, ◌^◌, ◌≤◌, ◌<◌, List, length, slice_get, Some}
use Rattle.cg_svspec.specs.Names.{Among}
use Rattle.cg_svspec.specs.Printable.{AllOf, IsSomeOf}
use Rattle.cg_desc.specs.Crossbar.{IsDevice, Connects}
use Rattle.cg_desc.specs.declared.crossbar.Range.{Range}
use Rattle.cg_desc.specs.declared.crossbar.NodeRanges.{NodeRanges}
use Rattle.cg_desc.specs.declared.crossbar.XbarDesc.{XbarDesc}

-- the address is in the range
abbrev pub RangeHolds : Range → ℕ → Type 0
RangeHolds r a = (r.base ≤ a) × (a < r.base + r.size)

-- one of the ranges has the address
abbrev pub SomeHolds : List Range → ℕ → Type 0
SomeHolds rs a = (r : Range) × Among r rs × RangeHolds r a

-- A range's size is a power of two and at least 4, its base is a multiple of its size, and its end is at most 2^32.
pub record IsRange (r : Range) : Type 0 where
  pub power : ℕ
  pub size_is : r.size ≡ 2 ^ power
  pub some : 2 ≤ power
  pub turn : ℕ
  pub aligned : r.base ≡ 2 ^ power * turn
  pub ends : r.base + r.size ≤ 2 ^ 32

-- ---- the ranges of a crossbar's nodes, in the order of the nodes

-- node d has these ranges
abbrev pub RangesAre : List NodeRanges → ℕ → NodeRanges → Type 0
RangesAre ranges d rs = slice_get ranges d ≡ Some rs

-- node d has the address in one of its ranges
abbrev pub HasAddress : List NodeRanges → ℕ → ℕ → Type 0
HasAddress ranges d a = (rs : NodeRanges) × RangesAre ranges d rs × (r : Range) × Among r rs.ranges × RangeHolds r a

-- Ranges for each node of the crossbar: each device has at least one, and all are of good shape. No two ranges of a device share an
-- address, and no two devices that one host connects to.
pub record AreRangesOf (x : XbarDesc) (ranges : List NodeRanges) : Type 0 where
  pub count : length ranges ≡ length x.nodes
  pub some : (d : ℕ) (rs : NodeRanges) → IsDevice x d → RangesAre ranges d rs → IsSomeOf rs.ranges
  pub shapes : (d : ℕ) (rs : NodeRanges) → IsDevice x d → RangesAre ranges d rs → AllOf IsRange rs.ranges
  pub differ : (d i j a : ℕ) (rs : NodeRanges) (r s : Range) → IsDevice x d → RangesAre ranges d rs → slice_get rs.ranges i ≡ Some r → slice_get rs.ranges j ≡ Some s
      → RangeHolds r a → RangeHolds s a → i ≡ j
  pub apart : (h d e a : ℕ) → Connects x h d → Connects x h e → HasAddress ranges d a → HasAddress ranges e a → d ≡ e
