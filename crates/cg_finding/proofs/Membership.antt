-- What stands in a list, said in several ways.
use Rattle.std.proofs.Common.{ℕ, ◌≡◌, ◌<◌, zero, suc, Bool, true, false, List, [], ◌∷◌, map, length, get_or, inl, inr, refl, sym, ap, subst, arith}
use Rattle.std.specs.List.{Contains, list_all, list_any}
use Rattle.std.specs.Str.{bytes_eq}
use Rattle.std.proofs.lemmas.Bool.{and_cases, and_from, and_left, and_parts, and_right, false_from_ne_true, or_cases, or_left, or_right}
use Rattle.std.proofs.lemmas.Slice.Eq.{bytes_eq-Decides}
use Rattle.std.proofs.lemmas.List.Elements.{Contains-append_right}
use Rattle.cg_finding.specs.Finding.{Among}

among_at : {X : Type 0} (xs : List X) (i : ℕ) (d : X) → i < length xs → Among (get_or xs i d) xs
among_at [] i d lt = absurd (omega arith)
among_at (x ∷ xs) zero d lt = inl refl
among_at (x ∷ xs) (suc i) d lt = inr (among_at xs i d (omega arith))

pub among_of : {X : Type 0} (xs : List X) (x : X) → Contains xs x → Among x xs
among_of xs x contains = subst (λ y. Among y xs) contains.2 (among_at xs contains.0 x contains.1)

pub contains_of : {X : Type 0} (xs : List X) (x : X) → Among x xs → Contains xs x
contains_of [] x among = absurd among
contains_of (y ∷ ys) x (inl is) = (0, omega arith, sym is)
contains_of (y ∷ ys) x (inr among) = Contains-append_right (y ∷ []) ys x (contains_of ys x among)

-- some item of the list passes the test
pub record Finds {X : Type 0} (test : X → Bool) (xs : List X) : Type 0 where
  pub item : X
  pub among : Among item xs
  pub passes : test item ≡ true

pub any_finds : {X : Type 0} (test : X → Bool) (xs : List X) → list_any test xs ≡ true → Finds test xs
any_finds test [] any = cc
any_finds test (x ∷ xs) any =
    elim (or_cases (test x) (list_any test xs) any) [
      | inl here ↦ record { item = x; among = inl refl; passes = here }
      | inr there ↦ let rest = any_finds test xs there in record { item = rest.item; among = inr rest.among; passes = rest.passes }
    ]

pub finds_any : {X : Type 0} (test : X → Bool) (xs : List X) (x : X) → Among x xs → test x ≡ true → list_any test xs ≡ true
finds_any test [] x among passes = absurd among
finds_any test (y ∷ ys) x (inl is) passes = or_left (test y) (list_any test ys) (subst (λ z. test z ≡ true) is passes)
finds_any test (y ∷ ys) x (inr among) passes = or_right (test y) (list_any test ys) (finds_any test ys x among passes)

-- the item is the view of one of these
pub record Viewed {X Y : Type 0} (view : X → Y) (xs : List X) (y : Y) : Type 0 where
  pub source : X
  pub among : Among source xs
  pub is : y ≡ view source

pub in_map : {X Y : Type 0} (view : X → Y) (xs : List X) (y : Y) → Among y (map view xs) → Viewed view xs y
in_map view [] y among = absurd among
in_map view (x ∷ xs) y (inl is) = record { source = x; among = inl refl; is = is }
in_map view (x ∷ xs) y (inr among) = let rest = in_map view xs y among in record { source = rest.source; among = inr rest.among; is = rest.is }

pub map_has : {X Y : Type 0} (view : X → Y) (xs : List X) (x : X) → Among x xs → Among (view x) (map view xs)
map_has view [] x among = absurd among
map_has view (y ∷ ys) x (inl is) = inl (ap view is)
map_has view (y ∷ ys) x (inr among) = inr (map_has view ys x among)

-- ---- tests

-- no item of the list passes the test
pub fails_any : {X : Type 0} (test : X → Bool) (xs : List X) → ((x : X) → Among x xs → ¬ (test x ≡ true)) → list_any test xs ≡ false
fails_any test xs none = false_from_ne_true (list_any test xs) (λ any. let one = any_finds test xs any in none one.item one.among one.passes)

-- some item of the list fails the test
pub record Fails {X : Type 0} (test : X → Bool) (xs : List X) : Type 0 where
  pub item : X
  pub among : Among item xs
  pub fails : test item ≡ false

pub all_fails : {X : Type 0} (test : X → Bool) (xs : List X) → list_all test xs ≡ false → Fails test xs
all_fails test [] all = cc
all_fails test (x ∷ xs) all =
    elim (and_cases (test x) (list_all test xs) all) [
      | inl here ↦ record { item = x; among = inl refl; fails = here }
      | inr there ↦ let rest = all_fails test xs there in record { item = rest.item; among = inr rest.among; fails = rest.fails }
    ]

pub fails_all : {X : Type 0} (test : X → Bool) (xs : List X) (x : X) → Among x xs → test x ≡ false → list_all test xs ≡ false
fails_all test [] x among fails = absurd among
fails_all test (y ∷ ys) x (inl is) fails = and_left (test y) (list_all test ys) (subst (λ z. test z ≡ false) is fails)
fails_all test (y ∷ ys) x (inr among) fails = and_right (test y) (list_all test ys) (fails_all test ys x among fails)

pub all_pass : {X : Type 0} (test : X → Bool) (xs : List X) → list_all test xs ≡ true → (x : X) → Among x xs → test x ≡ true
all_pass test [] all x among = absurd among
all_pass test (y ∷ ys) all x (inl is) = subst (λ z. test z ≡ true) (sym is) (and_parts (test y) (list_all test ys) all).0
all_pass test (y ∷ ys) all x (inr among) = all_pass test ys (and_parts (test y) (list_all test ys) all).1 x among

pub pass_all : {X : Type 0} (test : X → Bool) (xs : List X) → ((x : X) → Among x xs → test x ≡ true) → list_all test xs ≡ true
pass_all test [] each = refl
pass_all test (x ∷ xs) each = and_from (test x) (list_all test xs) (each x (inl refl)) (pass_all test xs (λ y among. each y (inr among)))

-- ---- texts

pub same_text : (a b : List ℕ) → bytes_eq a b ≡ true → a ≡ b
same_text a b = (bytes_eq-Decides a b).0

pub is_same_text : (a b : List ℕ) → a ≡ b → bytes_eq a b ≡ true
is_same_text a b = (bytes_eq-Decides a b).1

pub other_text : (a b : List ℕ) → bytes_eq a b ≡ false → ¬ (a ≡ b)
other_text a b h is = let same : bytes_eq a b ≡ true = is_same_text a b is in cc

pub is_other_text : (a b : List ℕ) → ¬ (a ≡ b) → bytes_eq a b ≡ false
is_other_text a b other = false_from_ne_true (bytes_eq a b) (λ same. other (same_text a b same))
