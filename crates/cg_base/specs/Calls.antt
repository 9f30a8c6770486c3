-- Calls that are counted from 1, some of which are to fail.
use Rattle.std.specs.Prelude.{◌≡◌, ◌↔◌, ℕ, ◌+◌, ◌-◌, ◌^◌, ◌≤◌, min, List, Contains}
use Rattle.cg_base.specs.declared.calls.Calls.{Calls}

-- the next number of a count, which stops at 2^64 - 1
abbrev pub next_number : ℕ → ℕ
next_number n = min (n + 1) (2 ^ 64 - 1)

-- no call was made yet
abbrev pub none_made : List ℕ → Calls
none_made to_fail = record { to_fail = to_fail; made = 0; faults = 0 }

-- the next call is one of those that are to fail
abbrev pub IsNextToFail : Calls → Type 0
IsNextToFail calls = Contains calls.to_fail (next_number calls.made)

-- one call was counted: it failed exactly where it was to, and then the count of faults rose
pub record Counts (failed : Type 0) (old new : Calls) : Type 0 where
  pub to_fail : new.to_fail ≡ old.to_fail
  pub made : new.made ≡ next_number old.made
  pub exactly : failed ↔ IsNextToFail old
  pub later : old.faults ≤ new.faults
  pub raised : failed → new.faults ≡ next_number old.faults
  pub stayed : ¬ failed → new.faults ≡ old.faults
