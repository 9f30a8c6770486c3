-- Lists that rise.
use Rattle.std.specs.Prelude.{List, [], ◌∷◌}
use Rattle.cg_svspec.specs.Printable.{AllOf}

-- each item stands in this relation to all behind it
abbrev pub Rises : {X : Type 0} → (X → X → Type 0) → List X → Type 0
Rises R [] = Unit {0}
Rises R (x ∷ xs) = AllOf (R x) xs × Rises R xs
