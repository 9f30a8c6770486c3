-- Lists whose members are changed by a function.
use Rattle.std.proofs.Common.{◌≡◌, ℕ, zero, suc, ◌+◌, ◌<◌, length, get_or, arith, Bool, ◌||◌, List, [], ◌∷◌, ◌++◌, map, inl, inr, refl, sym, ap, ◌∙◌}
use Rattle.std.specs.List.{Contains, flat_map, list_any, sum_by, zip}
use Rattle.std.proofs.lemmas.List.{map-append}
use Rattle.std.proofs.lemmas.List.Sums.{sum_by-cons}
use Rattle.cg_svspec.specs.Printable.{AllOf}
use Rattle.cg_finding.specs.Finding.{Among}

pub map_map : {X Y Z : Type 0} (g : Y → Z) (f : X → Y) (xs : List X) → map g (map f xs) ≡ map (λ x. g (f x)) xs
map_map g f [] = refl
map_map g f (x ∷ xs) = ap (λ ys. g (f x) ∷ ys) (map_map g f xs)

-- functions that agree give the same lists
pub map_agrees : {X Y : Type 0} (f g : X → Y) → ((x : X) → f x ≡ g x) → (xs : List X) → map f xs ≡ map g xs
map_agrees f g same [] = refl
map_agrees f g same (x ∷ xs) = λ i. same x i ∷ map_agrees f g same xs i

-- a function that sees no difference gives the same of the changed members
pub map_blind : {X Y : Type 0} (u : X → X) (f : X → Y) → ((x : X) → f (u x) ≡ f x) → (xs : List X) → map f (map u xs) ≡ map f xs
map_blind u f blind [] = refl
map_blind u f blind (x ∷ xs) = λ i. blind x i ∷ map_blind u f blind xs i

pub flat_map_blind : {X Y : Type 0} (u : X → X) (f : X → List Y) → ((x : X) → f (u x) ≡ f x) → (xs : List X) → flat_map f (map u xs) ≡ flat_map f xs
flat_map_blind u f blind [] = refl
flat_map_blind u f blind (x ∷ xs) = λ i. blind x i ++ flat_map_blind u f blind xs i

-- the parts of a list, each changed
pub flat_map_changes : {X Y : Type 0} (u : Y → Y) (f g : X → List Y) → ((x : X) → g x ≡ map u (f x)) → (xs : List X) → flat_map g xs ≡ map u (flat_map f xs)
flat_map_changes u f g same [] = refl
flat_map_changes u f g same (x ∷ xs) = (λ i. same x i ++ flat_map_changes u f g same xs i) ∙ sym (map-append u (f x) (flat_map f xs))

pub sum_blind : {X : Type 0} (u : X → X) (f : X → ℕ) → ((x : X) → f (u x) ≡ f x) → (xs : List X) → sum_by f (map u xs) ≡ sum_by f xs
sum_blind u f blind [] = refl
sum_blind u f blind (x ∷ xs) = sum_by-cons f (u x) (map u xs) ∙ (λ i. blind x i + sum_blind u f blind xs i) ∙ sym (sum_by-cons f x xs)

pub any_blind : {X : Type 0} (u : X → X) (p : X → Bool) → ((x : X) → p (u x) ≡ p x) → (xs : List X) → list_any p (map u xs) ≡ list_any p xs
any_blind u p blind [] = refl
any_blind u p blind (x ∷ xs) = λ i. blind x i || any_blind u p blind xs i

-- two lists side by side, both changed
pub zip_changes : {X Y : Type 0} (u : X → X) (v : Y → Y) (xs : List X) (ys : List Y) → zip (map u xs) (map v ys) ≡ map (λ (p : X × Y). (u p.0, v p.1)) (zip xs ys)
zip_changes u v [] ys = refl
zip_changes u v (x ∷ xs) [] = refl
zip_changes u v (x ∷ xs) (y ∷ ys) = ap (λ ps. (u x, v y) ∷ ps) (zip_changes u v xs ys)

-- ---- members

pub among_changed : {X Y : Type 0} (u : X → Y) (x : X) (xs : List X) → Among x xs → Among (u x) (map u xs)
among_changed u x [] among = absurd among
among_changed u x (y ∷ ys) (inl is) = inl (ap u is)
among_changed u x (y ∷ ys) (inr later) = inr (among_changed u x ys later)

-- a member that this one came of
pub record CameOf {X Y : Type 0} (u : X → Y) (xs : List X) (y : Y) : Type 0 where
  pub origin : X
  pub among : Among origin xs
  pub gives : u origin ≡ y

pub came_of : {X Y : Type 0} (u : X → Y) (y : Y) (xs : List X) → Among y (map u xs) → CameOf u xs y
came_of u y [] among = absurd among
came_of u y (x ∷ xs) (inl is) = record { origin = x; among = inl refl; gives = sym is }
came_of u y (x ∷ xs) (inr later) = let found = came_of u y xs later in record { origin = found.origin; among = inr found.among; gives = found.gives }

-- a list whose changed members stand so: some, one, and some more
pub record SplitsAt {X Y : Type 0} (u : X → Y) (xs : List X) (before : List Y) (y : Y) : Type 0 where
  pub front : List X
  pub origin : X
  pub back : List X
  pub stands : xs ≡ front ++ (origin ∷ back)
  pub gives_front : map u front ≡ before
  pub gives : u origin ≡ y

pub splits_at : {X Y : Type 0} (u : X → Y) (xs : List X) (before : List Y) (y : Y) (after : List Y) → map u xs ≡ before ++ (y ∷ after) → SplitsAt u xs before y
splits_at u [] [] y after e = cc
splits_at u [] (z ∷ before) y after e = cc
splits_at u (x ∷ xs) [] y after e = record { front = []; origin = x; back = xs; stands = refl; gives_front = refl; gives = cc }
splits_at u (x ∷ xs) (z ∷ before) y after e =
    let first : u x ≡ z = cc in
    let later : map u xs ≡ before ++ (y ∷ after) = cc in
    let found = splits_at u xs before y after later in
    record {
      front = x ∷ found.front;
      origin = found.origin;
      back = found.back;
      stands = ap (λ zs. x ∷ zs) found.stands;
      gives_front = λ i. first i ∷ found.gives_front i;
      gives = found.gives;
    }

-- ---- what holds of all

pub all_changed : {X Y : Type 0} (u : X → Y) (P : X → Type 0) (Q : Y → Type 0) → ((x : X) → P x → Q (u x)) → (xs : List X) → AllOf P xs → AllOf Q (map u xs)
all_changed u P Q up [] all = tt
all_changed u P Q up (x ∷ xs) all = (up x all.0, all_changed u P Q up xs all.1)

pub all_of_changed : {X Y : Type 0} (u : X → Y) (P : X → Type 0) (Q : Y → Type 0) → ((x : X) → Q (u x) → P x) → (xs : List X) → AllOf Q (map u xs) → AllOf P xs
all_of_changed u P Q down [] all = tt
all_of_changed u P Q down (x ∷ xs) all = (down x all.0, all_of_changed u P Q down xs all.1)

-- what holds of all holds of a member
pub all_among : {X : Type 0} (P : X → Type 0) (x : X) (xs : List X) → AllOf P xs → Among x xs → P x
all_among P x [] all among = absurd among
all_among P x (y ∷ ys) all (inl is) = rw is all.0
all_among P x (y ∷ ys) all (inr later) = all_among P x ys all.1 later

-- ---- members by their numbers

among_at : {X : Type 0} (xs : List X) (k : ℕ) (x : X) → k < length xs → get_or xs k x ≡ x → Among x xs
among_at [] k x h e = absurd (omega arith)
among_at (y ∷ ys) zero x h e = inl (sym e)
among_at (y ∷ ys) (suc k) x h e = inr (among_at ys k x (omega arith) e)

pub among : {X : Type 0} (xs : List X) (x : X) → Contains xs x → Among x xs
among xs x has = among_at xs has.0 x has.1 has.2

contains_later : {X : Type 0} (y : X) (ys : List X) (x : X) → Contains ys x → Contains (y ∷ ys) x
contains_later y ys x has = (suc has.0, omega (arith, has.1), has.2)

pub contains : {X : Type 0} (xs : List X) (x : X) → Among x xs → Contains xs x
contains [] x is = absurd is
contains (y ∷ ys) x (inl is) = (0, omega arith, sym is)
contains (y ∷ ys) x (inr later) = contains_later y ys x (contains ys x later)
