-- Names as they stand in nets.
use Rattle.std.proofs.Common.{◌≡◌, ℕ, eqb, Bool, true, false, cond, List, [], ◌∷◌, ◌++◌, codes, refl, ap, ◌∙◌}
use Rattle.std.specs.Prelude.{flat_map}
use Rattle.cg_busspec.specs.Crossbar.{label_character}
use Rattle.cg_svspec.specs.Links.{spelled}

flat_spelled : (s : List ℕ) → flat_map label_character s ≡ spelled s
flat_spelled [] = refl
flat_spelled (c ∷ s) = by (eqb c 46) (flat_spelled s) where
  by : (b : Bool) → flat_map label_character s ≡ spelled s → cond b (codes "__") (c ∷ []) ++ flat_map label_character s ≡ cond b (95 ∷ 95 ∷ spelled s) (c ∷ spelled s)
  by true e = ap (λ z. 95 ∷ 95 ∷ z) e
  by false e = ap (λ z. c ∷ z) e

pub spelled_is : (t s : List ℕ) → t ≡ flat_map label_character s → t ≡ spelled s
spelled_is t s e = e ∙ flat_spelled s
