-- The ranges that have an address, by where they begin and end, for one sweep over all of them.
use Rattle.std.specs.Prelude.{◌≡◌, ℕ, ◌+◌, ◌<◌, ◌≤◌, eqb, List, slice_get, Some}
use Rattle.std.specs.List.{count_by}
use Rattle.std.specs.List.Sorted.{IsNonDecreasingBy}
use Rattle.cg_svspec.specs.Names.{Among}
use Rattle.cg_desc.specs.declared.crossbar.Range.{Range}
use Rattle.cg_space.specs.declared.shared.Extent.{Extent}

-- the extent of the range at its place
pub record IsExtent (ranges : List Range) (e : Extent) : Type 0 where
  pub range : Range
  pub range_is : slice_get ranges e.place ≡ Some range
  pub first : e.first ≡ range.base
  pub end : e.end ≡ range.base + range.size
  pub some : e.first < e.end

-- how many are of the place
abbrev pub count_at : ℕ → List Extent → ℕ
count_at place extents = count_by (λ e. eqb e.place place) extents

-- one for each range that has an address, and no others
pub record AreExtents (ranges : List Range) (extents : List Extent) : Type 0 where
  pub each : (e : Extent) → Among e extents → IsExtent ranges e
  pub all : (place : ℕ) (range : Range) → slice_get ranges place ≡ Some range → 0 < range.size → (e : Extent) × Among e extents × (e.place ≡ place)
  pub once : (place : ℕ) → count_at place extents ≤ 1

-- each has an address
abbrev pub HaveAddresses : List Extent → Type 0
HaveAddresses extents = (i : ℕ) (e : Extent) → slice_get extents i ≡ Some e → e.first < e.end

-- by rising first addresses
abbrev pub Rise : List Extent → Type 0
Rise extents = IsNonDecreasingBy (λ (e : Extent). e.first) extents

-- of two at places below the count, one begins in front of the end of one that stands before it
pub record Meet (extents : List Extent) (count : ℕ) : Type 0 where
  pub i : ℕ
  pub j : ℕ
  pub order : i < j
  pub before : Extent
  pub behind : Extent
  pub before_is : slice_get extents i ≡ Some before
  pub behind_is : slice_get extents j ≡ Some behind
  pub before_counts : before.place < count
  pub behind_counts : behind.place < count
  pub meets : behind.first < before.end
