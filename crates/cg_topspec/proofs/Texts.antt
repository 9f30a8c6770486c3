-- Texts that differ, and the ends of texts.
use Rattle.std.proofs.Common.{◌≡◌, ℕ, Bool, true, false, ◌||◌, List, [], ◌∷◌, ◌++◌, refl}
use Rattle.std.specs.Str.{bytes_eq}
use Rattle.std.proofs.lemmas.Slice.Eq.{bytes_eq-Decides}
use Rattle.cg_svspec.specs.WellFormed.{ends_with}

pub other_name : (m n : List ℕ) → (m ≡ n → ⊥) → bytes_eq m n ≡ false
other_name m n h = by (bytes_eq m n) refl where
  by : (b : Bool) → bytes_eq m n ≡ b → b ≡ false
  by true e = absurd (h ((bytes_eq-Decides m n).0 e))
  by false e = refl

-- a text ends in its end
pub ends_itself : (xs end : List ℕ) → ends_with (xs ++ end) end ≡ true
ends_itself [] [] = refl
ends_itself [] (c ∷ cs) = rw ((bytes_eq-Decides (c ∷ cs) (c ∷ cs)).1 refl) refl
ends_itself (x ∷ xs) end = by (bytes_eq (x ∷ (xs ++ end)) end) (ends_itself xs end) where
  by : (b : Bool) → ends_with (xs ++ end) end ≡ true → (b || ends_with (xs ++ end) end) ≡ true
  by true e = refl
  by false e = e
