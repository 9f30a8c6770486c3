-- Loops that merge what is first for each item: one more item, and the end.
use Rattle.std.proofs.Common.{ℕ, ◌≡◌, List, [], ◌∷◌, ◌++◌, Option, sym, ap, ◌∙◌, suc, ◌+◌, ◌<◌, ◌≤◌, length, get_or, take, drop, map, drop-cons, add-one}
use Rattle.std.specs.List.{flat_map}
use Rattle.std.proofs.Math.Seq.{take-suc}
use Rattle.std.proofs.lemmas.List.{drop_all}
use Rattle.cg_finding.specs.Finding.{Finding, each_after, earlier, first_of}
use Rattle.cg_finding.proofs.Firsts.{earlier-None, earlier_assoc, first_of-append, first_of-empty}

-- one more item, at which what is first is merged
pub one_more : {X : Type 0} (f : X → List Finding) (xs : List X) (i : ℕ) (x d : X) (first now new : Option Finding)
    → i < length xs → x ≡ get_or xs i d → now ≡ first_of (f x) → new ≡ earlier first now
    → earlier new (first_of (flat_map f (drop (i + 1) xs))) ≡ earlier first (first_of (flat_map f (drop i xs)))
one_more f xs i x d first now new h e p q =
    let cut : drop i xs ≡ x ∷ drop (i + 1) xs = rw add-one (drop-cons xs i d h ∙ ap (λ y. y ∷ drop (suc i) xs) (sym e)) in
    rw (cut, q, p)
    (earlier_assoc first (first_of (f x)) (first_of (flat_map f (drop (i + 1) xs)))
    ∙ ap (earlier first) (sym (first_of-append (f x) (flat_map f (drop (i + 1) xs)))))

-- no item is left
pub no_more : {X : Type 0} (f : X → List Finding) (xs : List X) (i : ℕ) (first : Option Finding) → length xs ≤ i
    → earlier first (first_of (flat_map f (drop i xs))) ≡ first
no_more f xs i first h = rw (drop_all i xs h, first_of-empty) (earlier-None first)

-- the same where the items are viewed by a function
pub one_more_viewed : {X Y : Type 0} (f : Y → List Finding) (view : X → Y) (xs : List X) (i : ℕ) (x d : X) (first now new : Option Finding)
    → i < length xs → x ≡ get_or xs i d → now ≡ first_of (f (view x)) → new ≡ earlier first now
    → earlier new (first_of (flat_map f (map view (drop (i + 1) xs)))) ≡ earlier first (first_of (flat_map f (map view (drop i xs))))
one_more_viewed f view xs i x d first now new h e p q =
    let cut : drop i xs ≡ x ∷ drop (i + 1) xs = rw add-one (drop-cons xs i d h ∙ ap (λ y. y ∷ drop (suc i) xs) (sym e)) in
    rw (cut, q, p)
    (earlier_assoc first (first_of (f (view x))) (first_of (flat_map f (map view (drop (i + 1) xs))))
    ∙ ap (earlier first) (sym (first_of-append (f (view x)) (flat_map f (map view (drop (i + 1) xs))))))

pub no_more_viewed : {X Y : Type 0} (f : Y → List Finding) (view : X → Y) (xs : List X) (i : ℕ) (first : Option Finding) → length xs ≤ i
    → earlier first (first_of (flat_map f (map view (drop i xs)))) ≡ first
no_more_viewed f view xs i first h = rw (drop_all i xs h, first_of-empty) (earlier-None first)

-- the same where each item is looked at together with those before it
pub one_more_after : {X : Type 0} (f : List X → X → List Finding) (xs : List X) (i : ℕ) (x d : X) (first now new : Option Finding)
    → i < length xs → x ≡ get_or xs i d → now ≡ first_of (f (take i xs) x) → new ≡ earlier first now
    → earlier new (first_of (each_after f (take (i + 1) xs) (drop (i + 1) xs))) ≡ earlier first (first_of (each_after f (take i xs) (drop i xs)))
unfolding each_after
one_more_after f xs i x d first now new h e p q =
    let cut : drop i xs ≡ x ∷ drop (i + 1) xs = rw add-one (drop-cons xs i d h ∙ ap (λ y. y ∷ drop (suc i) xs) (sym e)) in
    let grown : take (i + 1) xs ≡ take i xs ++ x ∷ [] = rw add-one (take-suc xs i d h ∙ ap (λ y. take i xs ++ y ∷ []) (sym e)) in
    rw (cut, grown, q, p)
    (earlier_assoc first (first_of (f (take i xs) x)) (first_of (each_after f (take i xs ++ x ∷ []) (drop (i + 1) xs)))
    ∙ ap (earlier first) (sym (first_of-append (f (take i xs) x) (each_after f (take i xs ++ x ∷ []) (drop (i + 1) xs)))))

pub no_more_after : {X : Type 0} (f : List X → X → List Finding) (xs : List X) (i : ℕ) (first : Option Finding) → length xs ≤ i
    → earlier first (first_of (each_after f (take i xs) (drop i xs))) ≡ first
unfolding each_after
no_more_after f xs i first h = rw (drop_all i xs h, first_of-empty) (earlier-None first)
