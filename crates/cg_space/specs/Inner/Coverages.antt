-- What is kept of a list of ranges, in place of the list.
use Rattle.std.specs.Prelude.{ℕ, ◌≡◌, ◌⊎◌, ◌↔◌, true, false, List, [], ◌∷◌}
use Rattle.cg_svspec.specs.Printable.{AllOf}
use Rattle.cg_desc.specs.Ranges.{RangeHolds, IsRange}
use Rattle.cg_desc.specs.declared.crossbar.Range.{Range}
use Rattle.cg_space.specs.Inner.Regions.{Covers, IsRegion}
use Rattle.cg_space.specs.declared.coverage.Coverage.{Coverage}

-- one of the ranges has the address
abbrev pub HaveAddress : List Range → ℕ → Type 0
HaveAddress [] a = ⊥
HaveAddress (r ∷ rs) a = RangeHolds r a ⊎ HaveAddress rs a

-- both have an address
pub record Meet (xs ys : List Range) : Type 0 where
  pub address : ℕ
  pub left : HaveAddress xs address
  pub right : HaveAddress ys address

-- a range shares an address with one behind it
abbrev pub MeetWithin : List Range → Type 0
MeetWithin [] = ⊥
MeetWithin (r ∷ rs) = Meet (r ∷ []) rs ⊎ MeetWithin rs

-- one has a wrong shape
abbrev pub HasBad : List Range → Type 0
HasBad [] = ⊥
HasBad (r ∷ rs) = (¬ IsRange r) ⊎ HasBad rs

-- Their addresses, what is wrong with them, and, where nothing is wrong but that there may be none, the ranges themselves.
pub record IsCoverage (rs : List Range) (c : Coverage) : Type 0 where
  pub region : IsRegion c.cells
  pub covers : (a : ℕ) → Covers c.cells a ↔ HaveAddress rs a
  pub empty : (c.is_empty ≡ true) ↔ (rs ≡ [])
  pub bad : (c.is_bad ≡ true) ↔ HasBad rs
  pub good : c.is_bad ≡ false → AllOf IsRange rs
  pub shared : (c.is_shared ≡ true) ↔ MeetWithin rs
  pub listed : c.is_bad ≡ false → c.is_shared ≡ false → c.ranges ≡ rs
