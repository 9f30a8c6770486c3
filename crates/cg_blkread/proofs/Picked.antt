-- Loops that take the items that pass a test.
use Rattle.std.proofs.Common.{ℕ, ◌≡◌, ◌+◌, ◌<◌, ◌≤◌, Bool, true, false, List, [], ◌∷◌, ◌++◌, map, length, get_or, drop, drop-cons, add-one, suc, refl, sym, ap, ◌∙◌}
use Rattle.std.proofs.lemmas.List.{append_assoc, append-nil, drop_all}
use Rattle.std.specs.List.{filter}

-- the items that are left, from the first of them on
here : {X : Type 0} (xs : List X) (i : ℕ) (x d : X) → i < length xs → x ≡ get_or xs i d → drop i xs ≡ x ∷ drop (i + 1) xs
here xs i x d h e = rw add-one (drop-cons xs i d h ∙ ap (λ y. y ∷ drop (suc i) xs) (sym e))

first_passes : {X : Type 0} (test : X → Bool) (x : X) (xs : List X) (b : Bool) → test x ≡ b → b ≡ true → filter test (x ∷ xs) ≡ x ∷ filter test xs
first_passes test x xs b e h = rw (e, h) refl

first_fails : {X : Type 0} (test : X → Bool) (x : X) (xs : List X) (b : Bool) → test x ≡ b → b ≡ false → filter test (x ∷ xs) ≡ filter test xs
first_fails test x xs b e h = rw (e, h) refl

-- an item that passes is taken
pub taken : {X Y : Type 0} (view : X → Y) (test : X → Bool) (xs : List X) (i : ℕ) (x d : X) (out new : List Y) (y : Y) → i < length xs → x ≡ get_or xs i d
    → test x ≡ true → y ≡ view x → new ≡ out ++ y ∷ []
    → new ++ map view (filter test (drop (i + 1) xs)) ≡ out ++ map view (filter test (drop i xs))
taken view test xs i x d out new y h e passes is grows =
    let rest = map view (filter test (drop (i + 1) xs)) in
    ap (λ ys. ys ++ rest) grows
    ∙ append_assoc out (y ∷ []) rest
    ∙ ap (λ z. out ++ z ∷ rest) is
    ∙ ap (λ zs. out ++ map view zs) (sym (first_passes test x (drop (i + 1) xs) _ passes refl))
    ∙ ap (λ zs. out ++ map view (filter test zs)) (sym (here xs i x d h e))

-- an item that fails is passed
pub passed : {X Y : Type 0} (view : X → Y) (test : X → Bool) (xs : List X) (i : ℕ) (x d : X) (out : List Y) → i < length xs → x ≡ get_or xs i d
    → test x ≡ false → out ++ map view (filter test (drop (i + 1) xs)) ≡ out ++ map view (filter test (drop i xs))
passed view test xs i x d out h e fails =
    ap (λ zs. out ++ map view zs) (sym (first_fails test x (drop (i + 1) xs) _ fails refl))
    ∙ ap (λ zs. out ++ map view (filter test zs)) (sym (here xs i x d h e))

-- no item is left
pub none_left : {X Y : Type 0} (view : X → Y) (test : X → Bool) (xs : List X) (i : ℕ) (out : List Y) → length xs ≤ i
    → out ≡ out ++ map view (filter test (drop i xs))
none_left view test xs i out h = sym (ap (λ zs. out ++ map view (filter test zs)) (drop_all i xs h) ∙ append-nil out)
