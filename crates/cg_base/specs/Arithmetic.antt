-- Multiples.
use Rattle.std.specs.Prelude.{◌≡◌, ℕ, ◌*◌, ◌≤◌}

-- m is the least multiple of `to` that is not below n
pub record IsLeastMultiple (to n m : ℕ) : Type 0 where
  pub multiple : (k : ℕ) × (m ≡ k * to)
  pub reaches : n ≤ m
  pub least : (k : ℕ) → n ≤ k * to → m ≤ k * to
