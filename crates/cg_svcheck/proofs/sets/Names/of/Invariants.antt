use Rattle.std.proofs.Common.{◌≡◌, ◌||◌, ℕ, List, drop, map}
use Rattle.cg_svspec.specs.Names.{is_among}
use Rattle.cg_svcheck.specs.Lookups.{has}
use Rattle.cg_svcheck.proofs.sets.Names.of.Given as goal

-- the set has a name, or it is among those that are left, where it is among all
abbrev pub invariant-loop-name : goal.invariant-loop-name
invariant-loop-name l =
    (n : List ℕ) → (is_among (map (λ s. s.now) (drop l.name-index l.list)) n || has l.names n) ≡ is_among (map (λ s. s.now) l.list) n
