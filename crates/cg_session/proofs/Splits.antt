-- What std's `strip_prefix` and `split_once` find, in the words of a header's reading.
use Rattle.std.proofs.Common.{◌≡◌, ℕ, suc, ◌+◌, ◌<◌, ◌≢◌, true, List, [], ◌∷◌, ◌++◌, length, drop, Option, Some, None, Bor, refl, ap, sym, ◌∙◌, arith}
use Rattle.std.specs.Prelude.{option_map, MatchOption, get_or}
use Rattle.std.specs.Str.Pattern.{FindsTextPrefix}
use Rattle.std.proofs.lemmas.Bool.Decides.{nat_tests}
use Rattle.std.proofs.lemmas.Str.Pattern.{IsSplitOnceResult, split_parts}
use Rattle.cg_svspec.specs.Characters.{Each}
use Rattle.cg_inputs.specs.Reading.{without, cut}
use Rattle.cg_inputs.proofs.Pieces.{is_not, without_front, front_of, no_cut, cut_at}

-- the clause of `strip_prefix` at a text
abbrev pub IsStripped : List ℕ → List ℕ → Option (Bor (List ℕ)) → Type 0
IsStripped p s r = MatchOption r (FindsTextPrefix p s None) (λ x. (n : ℕ) × FindsTextPrefix p s (Some n) × (x.now ≡ drop n s) × (length x.now + n ≡ length s))

pub prefix_is : (p s : List ℕ) (r : Option (Bor (List ℕ))) → IsStripped p s r → option_map (λ x. x.now) r ≡ without p s
prefix_is p s None h = go (without p s) refl
  where
    go : (o : Option (List ℕ)) → without p s ≡ o → None ≡ o
    go None e = refl
    go (Some rest) e = absurd (h rest (front_of p s rest e))
prefix_is p s (Some x) h =
    let whole : s ≡ p ++ x.now = h.1.1 ∙ ap (λ t. p ++ t) (sym h.2) in
    rw whole (sym (without_front p x.now))

-- no place has the character, so each one is another
each_other : (c : ℕ) (xs : List ℕ) → ((i : ℕ) → i < length xs → get_or xs i 0 ≢ c) → Each (is_not c) xs
each_other c [] h = tt
each_other c (x ∷ xs) h =
    let here : is_not c x ≡ true = let other : x ≢ c = h 0 (omega arith) in grind (arith, nat_tests) in
    (here, each_other c xs (λ i under. h (suc i) (omega arith)))

pub cut_is : (c : ℕ) (s : List ℕ) (r : Option (Bor (List ℕ) × Bor (List ℕ))) → IsSplitOnceResult c s r → c < 128
    → option_map {U = List ℕ × List ℕ} (λ x. (x.0.now, x.1.now)) r ≡ cut c s
cut_is c s None h low = sym (no_cut c s (each_other c s (split_parts c s None h low)))
cut_is c s (Some x) h low =
    let parts = split_parts c s (Some x) h low in
    rw parts.0 (sym (cut_at c x.0.now x.1.now (each_other c x.0.now parts.1)))
