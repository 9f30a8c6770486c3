-- A name with two underscores for each dot.
use Rattle.std.proofs.Common.{◌≡◌, ◌≢◌, ℕ, zero, suc, ◌<◌, eqb, Bool, true, false, cond, inl, inr, List, [], ◌∷◌, ◌++◌, length, take, drop, refl, ap, sym, subst, ◌∙◌, codes, arith}
use Rattle.std.specs.Prelude.{flat_map, get_or}
use Rattle.std.specs.Str.{NoCharPasses}
use Rattle.std.specs.Str.Pattern.{FindsChar, HasCharAt}
use Rattle.std.specs.Str.Replace.{ReplacesMatches, ContinuesAfterMatch}
use Rattle.std.proofs.lemmas.Bool.Decides.{nat_tests}
use Rattle.std.proofs.lemmas.Str.Pattern.{drop_at_char, NoCharPasses-char}
use Rattle.std.proofs.lemmas.List.{append_assoc, take-append-drop}
use Rattle.cg_busspec.specs.Crossbar.{label_character}

-- no dot: the name as it is
no_dot : (s : List ℕ) → ((i : ℕ) → i < length s → get_or s i 0 ≢ 46) → flat_map label_character s ≡ s
no_dot [] h = refl
no_dot (c ∷ s) h = by (eqb c 46) refl (no_dot s (λ i low. h (suc i) (omega (arith, low)))) where
  by : (b : Bool) → eqb c 46 ≡ b → flat_map label_character s ≡ s → cond b (codes "__") (c ∷ []) ++ flat_map label_character s ≡ c ∷ s
  by true e later = absurd (h 0 (omega arith) (grind (arith, nat_tests)))
  by false e later = ap (λ z. c ∷ z) later

-- two texts, one after the other
flat_join : (s t : List ℕ) → flat_map label_character (s ++ t) ≡ flat_map label_character s ++ flat_map label_character t
flat_join [] t = refl
flat_join (c ∷ s) t = ap (λ z. label_character c ++ z) (flat_join s t) ∙ sym (append_assoc (label_character c) (flat_map label_character s) (flat_map label_character t))

no_dots : (s : List ℕ) → NoCharPasses (λ d. eqb d 46) s → flat_map label_character s ≡ s
no_dots s none = no_dot s (λ i low. NoCharPasses-char 46 s i none (omega arith) low)

-- the parts of a name about a dot
about_dot : (s : List ℕ) (a b : ℕ) → HasCharAt 46 s a b → s ≡ take a s ++ (46 ∷ drop b s)
about_dot s a b at = sym (take-append-drop a s) ∙ ap (λ z. take a s ++ z) (drop_at_char 46 s a b at (omega arith))

-- What `replace` makes of a name.
pub label_is : (n : ℕ) (s out : List ℕ) → ReplacesMatches FindsChar (λ p q. q ≡ p) (codes "__") n 46 s out → out ≡ flat_map label_character s
label_is zero s out r = r.1 ∙ sym (no_dots s r.0)
label_is (suc n) s out (a, b, q, rest, finds, keeps, continues, is) =
    is ∙ (ap (λ z. z ++ (codes "__" ++ rest)) (sym (no_dots (take a s) finds.0))
    ∙ ap (λ z. flat_map label_character (take a s) ++ (codes "__" ++ z)) (later (λ h. label_is n (drop b s) rest h) continues)
    ∙ (sym (flat_join (take a s) (46 ∷ drop b s)) ∙ ap (flat_map label_character) (sym (about_dot s a b finds.1)))) where
      later : (ReplacesMatches FindsChar (λ p q. q ≡ p) (codes "__") n 46 (drop b s) rest → rest ≡ flat_map label_character (drop b s))
          → ContinuesAfterMatch FindsChar (λ p q. q ≡ p) (codes "__") (ReplacesMatches FindsChar (λ p q. q ≡ p) (codes "__") n q) s a b rest → rest ≡ flat_map label_character (drop b s)
      later h (inl on) = h (subst (λ z. ReplacesMatches FindsChar (λ p q. q ≡ p) (codes "__") n z (drop b s) rest) keeps on.1)
      later h (inr none) = absurd (omega (arith, none.0, finds.1.ends))
