-- Prefixes and cuts of a text.
use Rattle.std.proofs.Common.{◌≡◌, ℕ, Bool, true, false, not, cond, List, [], ◌∷◌, ◌++◌, Option, Some, None, refl, ap, arith}
use Rattle.std.specs.Prelude.{eqb}
use Rattle.std.proofs.lemmas.Bool.Decides.{nat_tests}
use Rattle.cg_svspec.specs.Characters.{Each}
use Rattle.cg_inputs.specs.Reading.{without, after_one, cut}

-- equal numbers pass the test, and numbers that pass it are equal
same_passes : (c : ℕ) → eqb c c ≡ true
same_passes c = grind (arith, nat_tests)

passes_same : (c d : ℕ) → eqb c d ≡ true → c ≡ d
passes_same c d h = grind (arith, nat_tests)

-- ---- prefixes

-- behind a prefix that stands in front is what stands behind it
pub without_front : (p t : List ℕ) → without p (p ++ t) ≡ Some t
unfolding without
without_front [] t = refl
without_front (c ∷ cs) t = rw (same_passes c) (without_front cs t)

-- a text of which something is behind a prefix begins with the prefix
pub front_of : (p l t : List ℕ) → without p l ≡ Some t → l ≡ p ++ t
unfolding without
front_of [] l t h = cc
front_of (p ∷ ps) [] t h = cc
front_of (p ∷ ps) (c ∷ cs) t h = go (eqb c p) refl h (front_of ps cs t)
  where
    go : (b : Bool) → eqb c p ≡ b → cond b (without ps cs) None ≡ Some t → (without ps cs ≡ Some t → cs ≡ ps ++ t) → c ∷ cs ≡ p ∷ (ps ++ t)
    go true e k more = let head : c ≡ p = passes_same c p e in let tail : cs ≡ ps ++ t = more k in (λ i. head i ∷ tail i)
    go false e k more = cc

-- ---- cuts

-- the character is another one
abbrev pub is_not : ℕ → ℕ → Bool
is_not c x = not (eqb x c)

not_true : (b : Bool) → not b ≡ true → b ≡ false
not_true true h = cc
not_true false h = refl

-- a text without such a character has no cut
pub no_cut : (c : ℕ) (xs : List ℕ) → Each (is_not c) xs → cut c xs ≡ None
unfolding cut
no_cut c [] each = refl
no_cut c (x ∷ xs) each = rw (not_true (eqb x c) each.0, no_cut c xs each.1) refl

-- the cut is at the first one
pub cut_at : (c : ℕ) (xs ys : List ℕ) → Each (is_not c) xs → cut c (xs ++ (c ∷ ys)) ≡ Some (xs, ys)
unfolding cut
cut_at c [] ys each = rw (same_passes c) refl
cut_at c (x ∷ xs) ys each = rw (not_true (eqb x c) each.0, cut_at c xs ys each.1) refl

-- the parts of a cut and the character between them are the text
pub cut_parts : (c : ℕ) (s : List ℕ) (parts : List ℕ × List ℕ) → cut c s ≡ Some parts → s ≡ parts.0 ++ (c ∷ parts.1)
unfolding cut
cut_parts c [] parts h = cc
cut_parts c (x ∷ xs) parts h = go (eqb x c) (cut c xs) refl refl h (cut_parts c xs)
  where
    go : (b : Bool) (o : Option (List ℕ × List ℕ)) → eqb x c ≡ b → cut c xs ≡ o → cond b (Some ([], xs)) (after_one x o) ≡ Some parts
        → ((q : List ℕ × List ℕ) → cut c xs ≡ Some q → xs ≡ q.0 ++ (c ∷ q.1)) → x ∷ xs ≡ parts.0 ++ (c ∷ parts.1)
    go true o e m k more =
        let head : x ≡ c = passes_same x c e in
        let is : ([], xs) ≡ parts = cc in
        rw (← is) (ap (λ y. y ∷ xs) head)
    go false None e m k more = cc
    go false (Some q) e m k more =
        let is : (x ∷ q.0, q.1) ≡ parts = cc in
        rw (← is) (ap (λ l. x ∷ l) (more q m))
