-- Prefixes, cuts and lines of a text.
use Rattle.std.proofs.Common.{◌≡◌, ℕ, Bool, true, false, not, cond, List, [], ◌∷◌, ◌++◌, Option, Some, None, refl, ap, ◌∙◌, append_assoc, arith}
use Rattle.std.specs.Prelude.{eqb}
use Rattle.std.proofs.lemmas.Bool.Decides.{nat_tests}
use Rattle.cg_svspec.specs.Characters.{Each}
use Rattle.cg_svspec.specs.Printable.{AllOf}
use Rattle.cg_hdrspec.specs.Header.{IsLine, lines_text}
use Rattle.cg_hdrspec.specs.HeaderFault.{Splits}
use Rattle.cg_hdrspec.specs.Reading.{without, after_one, cut, before_lines, lines}

-- equal numbers pass the test, and numbers that pass it are equal
pub same_passes : (c : ℕ) → eqb c c ≡ true
same_passes c = grind (arith, nat_tests)

pub passes_same : (c d : ℕ) → eqb c d ≡ true → c ≡ d
passes_same c d h = grind (arith, nat_tests)

-- ---- prefixes

-- behind a prefix that stands in front is what stands behind it
pub without_front : (p t : List ℕ) → without p (p ++ t) ≡ Some t
unfolding without
without_front [] t = refl
without_front (c ∷ cs) t = rw (same_passes c) (without_front cs t)

-- a text of which something is behind a prefix begins with the prefix
pub front_of : (p l t : List ℕ) → without p l ≡ Some t → l ≡ p ++ t
unfolding without
front_of [] l t h = cc
front_of (p ∷ ps) [] t h = cc
front_of (p ∷ ps) (c ∷ cs) t h = go (eqb c p) refl h (front_of ps cs t)
  where
    go : (b : Bool) → eqb c p ≡ b → cond b (without ps cs) None ≡ Some t → (without ps cs ≡ Some t → cs ≡ ps ++ t) → c ∷ cs ≡ p ∷ (ps ++ t)
    go true e k more = let head : c ≡ p = passes_same c p e in let tail : cs ≡ ps ++ t = more k in (λ i. head i ∷ tail i)
    go false e k more = cc

-- ---- cuts

-- the character is another one
abbrev pub is_not : ℕ → ℕ → Bool
is_not c x = not (eqb x c)

not_true : (b : Bool) → not b ≡ true → b ≡ false
not_true true h = cc
not_true false h = refl

-- a text without such a character has no cut
pub no_cut : (c : ℕ) (xs : List ℕ) → Each (is_not c) xs → cut c xs ≡ None
unfolding cut
no_cut c [] each = refl
no_cut c (x ∷ xs) each = rw (not_true (eqb x c) each.0, no_cut c xs each.1) refl

-- the cut is at the first one
pub cut_at : (c : ℕ) (xs ys : List ℕ) → Each (is_not c) xs → cut c (xs ++ (c ∷ ys)) ≡ Some (xs, ys)
unfolding cut
cut_at c [] ys each = rw (same_passes c) refl
cut_at c (x ∷ xs) ys each = rw (not_true (eqb x c) each.0, cut_at c xs ys each.1) refl

-- the parts of a cut and the character between them are the text
pub cut_parts : (c : ℕ) (s : List ℕ) (parts : List ℕ × List ℕ) → cut c s ≡ Some parts → s ≡ parts.0 ++ (c ∷ parts.1)
unfolding cut
cut_parts c [] parts h = cc
cut_parts c (x ∷ xs) parts h = go (eqb x c) (cut c xs) refl refl h (cut_parts c xs)
  where
    go : (b : Bool) (o : Option (List ℕ × List ℕ)) → eqb x c ≡ b → cut c xs ≡ o → cond b (Some ([], xs)) (after_one x o) ≡ Some parts
        → ((q : List ℕ × List ℕ) → cut c xs ≡ Some q → xs ≡ q.0 ++ (c ∷ q.1)) → x ∷ xs ≡ parts.0 ++ (c ∷ parts.1)
    go true o e m k more =
        let head : x ≡ c = passes_same x c e in
        let is : ([], xs) ≡ parts = cc in
        rw (← is) (ap (λ y. y ∷ xs) head)
    go false None e m k more = cc
    go false (Some q) e m k more =
        let is : (x ∷ q.0, q.1) ≡ parts = cc in
        rw (← is) (ap (λ l. x ∷ l) (more q m))

-- ---- lines

-- the first line, and the lines behind it
pub lines_after : (l more : List ℕ) → IsLine l → lines (l ++ (10 ∷ more)) ≡ (l ∷ (lines more).0, (lines more).1)
unfolding lines
lines_after [] more each = refl
lines_after (x ∷ l) more each = rw (not_true (eqb x 10) each.0, lines_after l more each.1) refl

-- a text without a line feed has no line
pub no_lines : (s : List ℕ) → IsLine s → lines s ≡ ([], s)
unfolding lines
no_lines [] each = refl
no_lines (x ∷ s) each = rw (not_true (eqb x 10) each.0, no_lines s each.1) refl

-- lines and a rest are found in their text
pub lines_found : (ls : List (List ℕ)) (rest : List ℕ) → AllOf IsLine ls → IsLine rest → lines (lines_text ls ++ rest) ≡ (ls, rest)
unfolding lines_text
lines_found [] rest each is = no_lines rest is
lines_found (l ∷ ls) rest each is =
    ap lines (append_assoc l (10 ∷ lines_text ls) rest) ∙ (lines_after l (lines_text ls ++ rest) each.0
    ∙ ap (λ (p : List (List ℕ) × List ℕ). (l ∷ p.0, p.1)) (lines_found ls rest each.1 is))

-- one more character in front of lines and a rest
front_splits : (x : ℕ) (xs : List ℕ) (ls : List (List ℕ)) (rest : List ℕ) → eqb x 10 ≡ false → Splits xs ls rest
    → Splits (x ∷ xs) (before_lines x ls rest).0 (before_lines x ls rest).1
unfolding lines_text
front_splits x xs [] rest other s =
    record { is_text = ap (λ t. x ∷ t) s.is_text; are_lines = tt; is_rest = (ap not other, s.is_rest) }
front_splits x xs (l ∷ ls) rest other s =
    record { is_text = ap (λ t. x ∷ t) s.is_text; are_lines = ((ap not other, s.are_lines.0), s.are_lines.1); is_rest = s.is_rest }

-- a text is its lines and its rest
pub lines_split : (s : List ℕ) → Splits s (lines s).0 (lines s).1
unfolding lines lines_text
lines_split [] = record { is_text = refl; are_lines = tt; is_rest = tt }
lines_split (x ∷ xs) = go (eqb x 10) refl (lines_split xs)
  where
    go : (b : Bool) → eqb x 10 ≡ b → Splits xs (lines xs).0 (lines xs).1
        → Splits (x ∷ xs) (cond b ([] ∷ (lines xs).0, (lines xs).1) (before_lines x (lines xs).0 (lines xs).1)).0 (cond b ([] ∷ (lines xs).0, (lines xs).1) (before_lines x (lines xs).0 (lines xs).1)).1
    go true e s =
        let head : x ≡ 10 = passes_same x 10 e in
        record { is_text = (λ i. head i ∷ s.is_text i); are_lines = (tt, s.are_lines); is_rest = s.is_rest }
    go false e s = front_splits x xs (lines xs).0 (lines xs).1 e s

-- the lines and the rest that a text splits into are the ones that are found
pub split_found : (text : List ℕ) (ls : List (List ℕ)) (rest : List ℕ) → Splits text ls rest → lines text ≡ (ls, rest)
split_found text ls rest s = rw s.is_text (lines_found ls rest s.are_lines s.is_rest)
