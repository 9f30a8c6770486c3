-- Whether nothing is found, as a test.
use Rattle.std.proofs.Common.{◌≡◌, Bool, true, false, not, ◌&&◌, cond, List, [], ◌∷◌, ◌++◌, refl, ◌∙◌}
use Rattle.std.specs.List.{flat_map, list_all}
use Rattle.cg_finding.specs.Finding.{Finding}

-- there are none
abbrev pub is_none : List Finding → Bool
is_none [] = true
is_none (f ∷ fs) = false

-- an empty list has none
pub empty_is_none : (fs : List Finding) → fs ≡ [] → is_none fs ≡ true
empty_is_none [] h = refl
empty_is_none (f ∷ fs) h = cc

-- what has none is empty
pub none_is_empty : (fs : List Finding) → is_none fs ≡ true → fs ≡ []
none_is_empty [] h = refl
none_is_empty (f ∷ fs) h = cc

-- two lists have none where each has none
pub none_of_both : (xs ys : List Finding) → is_none (xs ++ ys) ≡ (is_none xs && is_none ys)
none_of_both [] ys = refl
none_of_both (x ∷ xs) ys = refl

-- none of two lists, each by a test
pub none_by_both : (xs ys : List Finding) (a b : Bool) → is_none xs ≡ a → is_none ys ≡ b → is_none (xs ++ ys) ≡ (a && b)
none_by_both xs ys a b first second = none_of_both xs ys ∙ (λ i. first i && second i)

-- none of each item, by a test
pub none_of_each : {X : Type 0} (f : X → List Finding) (g : X → Bool) (xs : List X) → ((x : X) → is_none (f x) ≡ g x)
    → is_none (flat_map f xs) ≡ list_all g xs
none_of_each f g [] same = refl
none_of_each f g (x ∷ xs) same = none_by_both (f x) (flat_map f xs) (g x) (list_all g xs) (same x) (none_of_each f g xs same)

-- a finding where a test fails
pub none_unless : (b : Bool) (f : Finding) → is_none (cond b [] (f ∷ [])) ≡ b
none_unless true f = refl
none_unless false f = refl

-- a finding where a test holds
pub none_when : (b : Bool) (f : Finding) → is_none (cond b (f ∷ []) []) ≡ not b
none_when true f = refl
none_when false f = refl

-- what is looked for where a test holds
pub none_where : (b : Bool) (fs : List Finding) → is_none (cond b fs []) ≡ cond b (is_none fs) true
none_where true fs = refl
none_where false fs = refl

-- what is not true is false
pub not_false : (b : Bool) → not b ≡ true → b ≡ false
not_false true h = absurd cc
not_false false h = refl
