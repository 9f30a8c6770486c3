-- Members of lists, and two lists side by side.
use Rattle.std.proofs.Common.{◌≡◌, ℕ, zero, suc, ◌+◌, ◌<◌, ◌≤◌, List, [], ◌∷◌, inl, inr, length, get_or, drop, refl, sym, ap, ◌∙◌, arith, add-one, drop-cons}
use Rattle.std.specs.List.{Contains, zip}
use Rattle.std.proofs.lemmas.List.{drop_all}
use Rattle.cg_finding.specs.Finding.{Among}

-- an item of a list, by its number
among_at : {X : Type 0} (xs : List X) (k : ℕ) (x : X) → k < length xs → get_or xs k x ≡ x → Among x xs
among_at [] k x h e = absurd (omega arith)
among_at (y ∷ ys) zero x h e = inl (sym e)
among_at (y ∷ ys) (suc k) x h e = inr (among_at ys k x (omega arith) e)

-- an item that a list has, said by recursion
pub among : {X : Type 0} (xs : List X) (x : X) → Contains xs x → Among x xs
among xs x has = among_at xs has.0 x has.1 has.2

-- one more item in front
contains_later : {X : Type 0} (y : X) (ys : List X) (x : X) → Contains ys x → Contains (y ∷ ys) x
contains_later y ys x has = (suc has.0, omega (arith, has.1), has.2)

-- and the other way round
pub contains : {X : Type 0} (xs : List X) (x : X) → Among x xs → Contains xs x
contains [] x is = absurd is
contains (y ∷ ys) x (inl is) = (0, omega arith, sym is)
contains (y ∷ ys) x (inr later) = contains_later y ys x (contains ys x later)

-- a list of length 0 is empty
pub nothing_left : {X : Type 0} (xs : List X) → length xs ≡ 0 → xs ≡ []
nothing_left [] h = refl
nothing_left (x ∷ xs) h = absurd (omega arith)

-- what a list has from an index on
pub cut : {X : Type 0} (xs : List X) (i : ℕ) (x d : X) → i < length xs → x ≡ get_or xs i d → drop i xs ≡ x ∷ drop (i + 1) xs
cut xs i x d h e = rw add-one (drop-cons xs i d h ∙ ap (λ y. y ∷ drop (suc i) xs) (sym e))

-- what two lists side by side have from an index on
zip_cut : {X Y : Type 0} (xs : List X) (ys : List Y) (i : ℕ) (x d : X) (y e : Y) → i < length xs → i < length ys
    → x ≡ get_or xs i d → y ≡ get_or ys i e → drop i (zip xs ys) ≡ (x, y) ∷ drop (suc i) (zip xs ys)
zip_cut [] ys i x d y e h k p q = absurd (omega arith)
zip_cut (a ∷ xs) [] i x d y e h k p q = absurd (omega arith)
zip_cut (a ∷ xs) (b ∷ ys) zero x d y e h k p q = rw (p, q) refl
zip_cut (a ∷ xs) (b ∷ ys) (suc i) x d y e h k p q = zip_cut xs ys i x d y e (omega arith) (omega arith) p q

pub zip_front : {X Y : Type 0} (xs : List X) (ys : List Y) (i : ℕ) (x d : X) (y e : Y) → i < length xs → i < length ys
    → x ≡ get_or xs i d → y ≡ get_or ys i e → drop i (zip xs ys) ≡ (x, y) ∷ drop (i + 1) (zip xs ys)
zip_front xs ys i x d y e h k p q = rw add-one (zip_cut xs ys i x d y e h k p q)

zip_length : {X Y : Type 0} (xs : List X) (ys : List Y) → length (zip xs ys) ≤ length xs
zip_length [] ys = omega arith
zip_length (x ∷ xs) [] = omega arith
zip_length (x ∷ xs) (y ∷ ys) = omega (arith, zip_length xs ys)

pub zip_done : {X Y : Type 0} (xs : List X) (ys : List Y) (i : ℕ) → length xs ≤ i → drop i (zip xs ys) ≡ []
zip_done xs ys i h = drop_all i (zip xs ys) (omega (arith, zip_length xs ys))
