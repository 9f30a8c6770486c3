-- What a test of a list finds.
use Rattle.std.proofs.Common.{◌≡◌, Bool, true, false, ◌&&◌, List, [], ◌∷◌, ◌++◌, ◌⊎◌, map, inl, inr, refl, sym, ap, subst}
use Rattle.std.specs.List.{flat_map, list_all, list_any}
use Rattle.std.proofs.lemmas.Bool.{false_from_ne_true, or_cases, or_left, or_right}
use Rattle.cg_finding.specs.Finding.{Among}

-- an item of the list has this answer by a test
pub record Finds {X : Type 0} (test : X → Bool) (answer : Bool) (xs : List X) : Type 0 where
  pub item : X
  pub among : Among item xs
  pub answers : test item ≡ answer

pub any_finds : {X : Type 0} (test : X → Bool) (xs : List X) → list_any test xs ≡ true → Finds test true xs
any_finds test [] any = cc
any_finds test (x ∷ xs) any =
    elim (or_cases (test x) (list_any test xs) any) [
      | inl here ↦ record { item = x; among = inl refl; answers = here }
      | inr there ↦ let rest = any_finds test xs there in record { item = rest.item; among = inr rest.among; answers = rest.answers }
    ]

pub finds_any : {X : Type 0} (test : X → Bool) (xs : List X) (x : X) → Among x xs → test x ≡ true → list_any test xs ≡ true
finds_any test [] x among passes = absurd among
finds_any test (y ∷ ys) x (inl is) passes = or_left (test y) (list_any test ys) (subst (λ z. test z ≡ true) is passes)
finds_any test (y ∷ ys) x (inr among) passes = or_right (test y) (list_any test ys) (finds_any test ys x among passes)

-- where none is found, none passes
pub none_passes : {X : Type 0} (test : X → Bool) (xs : List X) → list_any test xs ≡ false → (x : X) → Among x xs → test x ≡ true → ⊥
none_passes test xs none x among passes = let any : list_any test xs ≡ true = finds_any test xs x among passes in cc

pub passes_none : {X : Type 0} (test : X → Bool) (xs : List X) → ((x : X) → Among x xs → test x ≡ true → ⊥) → list_any test xs ≡ false
passes_none test xs none = false_from_ne_true (list_any test xs) (λ any. let one = any_finds test xs any in none one.item one.among one.answers)

-- not all pass exactly where one fails
pub all_fails : {X : Type 0} (test : X → Bool) (xs : List X) → list_all test xs ≡ false → Finds test false xs
all_fails test [] fails = cc
all_fails {X} test (x ∷ xs) fails = by (λ h. all_fails test xs h) (test x) refl fails
  where
    by : (list_all test xs ≡ false → Finds test false xs) → (b : Bool) → test x ≡ b → (b && list_all test xs) ≡ false → Finds test false (x ∷ xs)
    by rest false is h = record { item = x; among = inl refl; answers = is }
    by rest true is h = record { item = (rest h).item; among = inr (rest h).among; answers = (rest h).answers }

pub fails_all : {X : Type 0} (test : X → Bool) (xs : List X) (x : X) → Among x xs → test x ≡ false → list_all test xs ≡ false
fails_all test [] x among fails = absurd among
fails_all test (y ∷ ys) x (inl is) fails = rw (subst (λ z. test z ≡ false) is fails) refl
fails_all {X} test (y ∷ ys) x (inr among) fails = by (fails_all test ys x among fails) (test y)
  where
    by : list_all test ys ≡ false → (b : Bool) → (b && list_all test ys) ≡ false
    by rest true = rest
    by rest false = refl

-- the item is the view of one of these
pub record Viewed {X Y : Type 0} (view : X → Y) (xs : List X) (y : Y) : Type 0 where
  pub source : X
  pub among : Among source xs
  pub is : y ≡ view source

pub in_map : {X Y : Type 0} (view : X → Y) (xs : List X) (y : Y) → Among y (map view xs) → Viewed view xs y
in_map view [] y among = absurd among
in_map view (x ∷ xs) y (inl is) = record { source = x; among = inl refl; is = is }
in_map view (x ∷ xs) y (inr among) = let rest = in_map view xs y among in record { source = rest.source; among = inr rest.among; is = rest.is }

pub map_has : {X Y : Type 0} (view : X → Y) (xs : List X) (x : X) → Among x xs → Among (view x) (map view xs)
map_has view [] x among = absurd among
map_has view (y ∷ ys) x (inl is) = inl (ap view is)
map_has view (y ∷ ys) x (inr among) = inr (map_has view ys x among)

-- ---- where an item stands

pub record Splits {X : Type 0} (xs : List X) (x : X) : Type 0 where
  pub front : List X
  pub back : List X
  pub splits : xs ≡ front ++ x ∷ back

pub among_splits : {X : Type 0} (xs : List X) (x : X) → Among x xs → Splits xs x
among_splits [] x among = absurd among
among_splits (y ∷ ys) x (inl is) = record { front = []; back = ys; splits = ap (λ z. z ∷ ys) (sym is) }
among_splits (y ∷ ys) x (inr among) = let rest = among_splits ys x among in record { front = y ∷ rest.front; back = rest.back; splits = ap (λ zs. y ∷ zs) rest.splits }

pub in_middle : {X : Type 0} (front back : List X) (x : X) → Among x (front ++ x ∷ back)
in_middle [] back x = inl refl
in_middle (y ∷ front) back x = inr (in_middle front back x)

-- ---- lists of lists

pub among_either : {X : Type 0} (x : X) (xs ys : List X) → Among x (xs ++ ys) → Among x xs ⊎ Among x ys
among_either x [] ys among = inr among
among_either x (y ∷ xs) ys (inl is) = inl (inl is)
among_either x (y ∷ xs) ys (inr among) = elim (among_either x xs ys among) [ inl a ↦ inl (inr a) | inr b ↦ inr b ]

pub among_left : {X : Type 0} (x : X) (xs ys : List X) → Among x xs → Among x (xs ++ ys)
among_left x [] ys among = absurd among
among_left x (y ∷ xs) ys (inl is) = inl is
among_left x (y ∷ xs) ys (inr among) = inr (among_left x xs ys among)

pub among_right : {X : Type 0} (x : X) (xs ys : List X) → Among x ys → Among x (xs ++ ys)
among_right x [] ys among = among
among_right x (y ∷ xs) ys among = inr (among_right x xs ys among)

pub record FromList {X Y : Type 0} (g : X → List Y) (xs : List X) (y : Y) : Type 0 where
  pub item : X
  pub among : Among item xs
  pub found : Among y (g item)

pub among_flat_map : {X Y : Type 0} (g : X → List Y) (xs : List X) (y : Y) → Among y (flat_map g xs) → FromList g xs y
among_flat_map g [] y among = absurd among
among_flat_map g (x ∷ xs) y among =
    elim (among_either y (g x) (flat_map g xs) among) [
      | inl here ↦ record { item = x; among = inl refl; found = here }
      | inr later ↦ let one = among_flat_map g xs y later in record { item = one.item; among = inr one.among; found = one.found }
    ]

pub flat_map_among : {X Y : Type 0} (g : X → List Y) (xs : List X) (x : X) (y : Y) → Among x xs → Among y (g x) → Among y (flat_map g xs)
flat_map_among g [] x y among found = absurd among
flat_map_among g (z ∷ zs) x y (inl is) found = among_left y (g z) (flat_map g zs) (subst (λ w. Among y (g w)) is found)
flat_map_among g (z ∷ zs) x y (inr among) found = among_right y (g z) (flat_map g zs) (flat_map_among g zs x y among found)
