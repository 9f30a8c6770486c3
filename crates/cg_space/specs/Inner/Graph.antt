-- Numbers that lead to numbers: which are reached from which.
use Rattle.std.specs.Prelude.{ℕ, ◌<◌, List, [], length, get_or}
use Rattle.cg_svspec.specs.Names.{Among}
use Rattle.cg_svspec.specs.Printable.{AllOf}

-- x leads to y
abbrev pub IsLink : List (List ℕ) → ℕ → ℕ → Type 0
IsLink links x y = Among y (get_or links x [])

-- y is x, or is reached from a number that x leads to
pub data IsReached (links : List (List ℕ)) : ℕ → ℕ → Type 0 where
  itself : {x : ℕ} → IsReached links x x
  onward : {x y : ℕ} (k : ℕ) → IsLink links x k → IsReached links k y → IsReached links x y

-- each leads to some of them
abbrev pub AllWithin : List (List ℕ) → Type 0
AllWithin links = AllOf (AllOf (λ k. k < length links)) links

-- no number leads to one from which it is reached
abbrev pub HasNoLoop : List (List ℕ) → Type 0
HasNoLoop links = (x k : ℕ) → IsLink links x k → ¬ IsReached links k x
