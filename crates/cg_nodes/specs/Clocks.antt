-- The clocks of a crossbar, in the order in which they are first used.
use Rattle.std.specs.Prelude.{◌≡◌, ◌≢◌, ◌↔◌, ℕ, ◌≤◌, List, ◌∷◌, map, slice_get, Some}
use Rattle.cg_svspec.specs.Names.{Among}
use Rattle.cg_desc.specs.declared.crossbar.XbarDesc.{XbarDesc}
use Rattle.cg_nodes.specs.Order.{Rises}

-- where clocks are used: by the crossbar, then by its nodes in order
abbrev pub clock_uses : XbarDesc → List (List ℕ)
clock_uses x = x.clock ∷ map (λ node. node.clock) x.nodes

-- one clock is used before another: at a place up to which the other is not used
abbrev pub IsUsedBefore : XbarDesc → List ℕ → List ℕ → Type 0
IsUsedBefore x a b =
    (i : ℕ) × (slice_get (clock_uses x) i ≡ Some a) × ((j : ℕ) → j ≤ i → slice_get (clock_uses x) j ≢ Some b)

-- The list has exactly the clocks that are used, each before all that are first used later, so each once.
pub record IsClocks (x : XbarDesc) (clocks : List (List ℕ)) : Type 0 where
  pub members : (c : List ℕ) → Among c clocks ↔ Among c (clock_uses x)
  pub in_order : Rises (IsUsedBefore x) clocks
