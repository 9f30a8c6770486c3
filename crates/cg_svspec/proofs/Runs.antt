-- Runs of characters of one kind, and what stands behind them.
use Rattle.std.proofs.Common.{◌≡◌, ℕ, ◌<◌, ◌≤◌, Bool, true, false, ◌&&◌, ◌||◌, List, [], ◌∷◌, ◌++◌, length, refl, ap, sym, subst, arith}
use Rattle.std.specs.List.{list_all}
use Rattle.cg_svspec.specs.Characters.{Each}

-- the text does not go on with such a character
abbrev pub StartsNot : (ℕ → Bool) → List ℕ → Type 0
StartsNot p [] = Unit {0}
StartsNot p (c ∷ cs) = p c ≡ false

-- both tests pass where their conjunction does
pub both_pass : (a b : Bool) → (a && b) ≡ true → (a ≡ true) × (b ≡ true)
both_pass true b h = (refl, h)
both_pass false b h = cc

-- the first test fails where their disjunction does
pub or_false_left : (a b : Bool) → (a || b) ≡ false → a ≡ false
or_false_left true b h = cc
or_false_left false b h = refl

-- the second test fails where their disjunction does
pub or_false_right : (a b : Bool) → (a || b) ≡ false → b ≡ false
or_false_right true b h = cc
or_false_right false b h = h

-- each character passes where the test of them all does, which computes at a text that is written out
pub each_passes : (p : ℕ → Bool) (xs : List ℕ) → list_all p xs ≡ true → Each p xs
each_passes p [] h = tt
each_passes p (x ∷ xs) h = let both = both_pass (p x) (list_all p xs) h in (both.0, each_passes p xs both.1)

-- equal texts begin with equal characters
pub same_first : (c d : ℕ) (xs ys : List ℕ) → c ∷ xs ≡ d ∷ ys → c ≡ d
same_first c d xs ys e = cc

-- a run that stands where another ends before a character of no such kind is no longer than that one
pub no_longer : (p : ℕ → Bool) (xs ys rest tail : List ℕ) → Each p ys → StartsNot p rest → xs ++ rest ≡ ys ++ tail → length ys ≤ length xs
no_longer p xs [] rest tail each ends e = omega arith
no_longer p [] (y ∷ ys) [] tail each ends e = cc
no_longer p [] (y ∷ ys) (c ∷ cs) tail each ends e =
    let same : p c ≡ p y = ap p (same_first c y cs (ys ++ tail) e) in
    let passes : p y ≡ true = each.0 in
    cc
no_longer p (x ∷ xs) (y ∷ ys) rest tail each ends e =
    let behind : xs ++ rest ≡ ys ++ tail = cc in
    omega (arith, no_longer p xs ys rest tail each.1 ends behind)

-- two runs that stand at one place and both end before a character of no such kind are one
pub same_run : (p : ℕ → Bool) (xs ys rest tail : List ℕ) → Each p xs → Each p ys → StartsNot p rest → StartsNot p tail → xs ++ rest ≡ ys ++ tail → (xs ≡ ys) × (rest ≡ tail)
same_run p [] [] rest tail a b c d e = (refl, e)
same_run p [] (y ∷ ys) [] tail a b c d e = cc
same_run p [] (y ∷ ys) (x ∷ rest) tail a b c d e = let same : p x ≡ p y = cc in let passes : p y ≡ true = b.0 in cc
same_run p (x ∷ xs) [] rest [] a b c d e = cc
same_run p (x ∷ xs) [] rest (y ∷ tail) a b c d e = let same : p x ≡ p y = cc in let passes : p x ≡ true = a.0 in cc
same_run p (x ∷ xs) (y ∷ ys) rest tail a b c d e =
    let behind : xs ++ rest ≡ ys ++ tail = cc in
    let more = same_run p xs ys rest tail a.1 b.1 c d behind in
    let head : x ≡ y = cc in
    let tails : xs ≡ ys = more.0 in
    (cc, more.1)

-- no run of a kind stands where a character of another kind does
pub no_run : (p q : ℕ → Bool) → ((c : ℕ) → p c ≡ true → q c ≡ true → ⊥) → (c : ℕ) (rest run tail : List ℕ) → p c ≡ true → Each q run → 0 < length run → c ∷ rest ≡ run ++ tail → ⊥
no_run p q apart c rest [] tail h each some e = absurd (omega arith)
no_run p q apart c rest (y ∷ ys) tail h each some e =
    apart c h (subst (λ z. q z ≡ true) (sym (same_first c y rest (ys ++ tail) e)) each.0)

-- fronts of one length of equal texts are equal, and so is what stands behind them
pub same_front : (xs ys rest tail : List ℕ) → length xs ≡ length ys → xs ++ rest ≡ ys ++ tail → (xs ≡ ys) × (rest ≡ tail)
same_front [] [] rest tail l e = (refl, e)
same_front [] (y ∷ ys) rest tail l e = absurd (omega arith)
same_front (x ∷ xs) [] rest tail l e = absurd (omega arith)
same_front (x ∷ xs) (y ∷ ys) rest tail l e =
    let behind : xs ++ rest ≡ ys ++ tail = cc in
    let shorter : length xs ≡ length ys = omega arith in
    let more = same_front xs ys rest tail shorter behind in
    let head : x ≡ y = cc in
    let tails : xs ≡ ys = more.0 in
    (cc, more.1)
