-- Which range of a list is the first to share an address with an earlier one.
use Rattle.std.specs.Prelude.{◌≡◌, ℕ, ◌<◌, List, slice_get, Option, Some, None}
use Rattle.cg_desc.specs.Ranges.{RangeHolds}
use Rattle.cg_desc.specs.declared.crossbar.Range.{Range}

-- the range at place j shares an address with an earlier one
pub record SharesAt (ranges : List Range) (j : ℕ) : Type 0 where
  pub i : ℕ
  pub order : i < j
  pub earlier : Range
  pub later : Range
  pub earlier_is : slice_get ranges i ≡ Some earlier
  pub later_is : slice_get ranges j ≡ Some later
  pub address : ℕ
  pub earlier_holds : RangeHolds earlier address
  pub later_holds : RangeHolds later address

-- the least such place, and none where there is none
abbrev pub IsFirstShared : List Range → Option ℕ → Type 0
IsFirstShared ranges (Some j) = SharesAt ranges j × ((k : ℕ) → k < j → ¬ SharesAt ranges k)
IsFirstShared ranges None = (k : ℕ) → ¬ SharesAt ranges k
