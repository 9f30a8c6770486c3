-- Items of two lists side by side: the first place at which something is found, and what is found nowhere.
use Rattle.std.proofs.Common.{◌≡◌, ◌⊎◌, ℕ, zero, suc, ◌<◌, List, [], ◌∷◌, length, map, Option, Some, None, inl, inr, refl, sym, ap, subst, ◌∙◌, arith}
use Rattle.std.specs.List.{slice_get}
use Rattle.std.specs.Option.{option_map}
use Rattle.cg_svspec.specs.Names.{Among}
use Rattle.cg_svspec.specs.Printable.{AllOf}
use Rattle.cg_desc.specs.declared.fault.Fault.{Fault}
use Rattle.cg_chip.specs.Inner.{or_later}

-- ---- single lists

-- what holds of all holds at each place
pub all_at : {A : Type 0} (P : A → Type 0) (xs : List A) (i : ℕ) (x : A) → AllOf P xs → slice_get xs i ≡ Some x → P x
all_at P [] i x all is = cc
all_at P (y ∷ ys) zero x all is = let same : y ≡ x = cc in subst P same all.0
all_at P (y ∷ ys) (suc i) x all is = all_at P ys i x all.1 is

-- the image of an item is among the images
pub image_in : {A B : Type 0} (f : A → B) (xs : List A) (x : A) → Among x xs → Among (f x) (map f xs)
image_in f [] x none = absurd none
image_in f (y ∷ ys) x (inl is) = inl (ap f is)
image_in f (y ∷ ys) x (inr there) = inr (image_in f ys x there)

-- what is among the images is one of an item
pub image_out : {A B : Type 0} (f : A → B) (xs : List A) (o : B) → Among o (map f xs) → (x : A) × Among x xs × (o ≡ f x)
image_out f [] o none = absurd none
image_out f (y ∷ ys) o (inl is) = (y, inl refl, is)
image_out f (y ∷ ys) o (inr there) = let later = image_out f ys o there in (later.0, inr later.1, later.2)

-- ---- options

-- an image that is there is one of something
pub image_some : {A B : Type 0} (f : A → B) (o : Option A) (b : B) → option_map f o ≡ Some b → (a : A) × (o ≡ Some a) × (b ≡ f a)
image_some f None b is = cc
image_some f (Some a) b is = let same : b ≡ f a = cc in (a, refl, same)

pub image_none : {A B : Type 0} (f : A → B) (o : Option A) → option_map f o ≡ None → o ≡ None
image_none f None is = refl
image_none f (Some a) is = cc

-- what is found in one of two places
pub or_none : (a b : Option Fault) → or_later a b ≡ None → (a ≡ None) × (b ≡ None)
or_none None b is = (refl, is)
or_none (Some fault) b is = cc

pub or_some : (a b : Option Fault) (f : Fault) → or_later a b ≡ Some f → (a ≡ Some f) ⊎ ((a ≡ None) × (b ≡ Some f))
or_some None b f is = inr (refl, is)
or_some (Some fault) b f is = inl is

-- ---- two lists side by side

-- what is found at the first place of both that has something
abbrev pub first_in : {A B : Type 0} → (A → B → Option Fault) → List A → List B → Option Fault
first_in f [] ys = None
first_in f (x ∷ xs) [] = None
first_in f (x ∷ xs) (y ∷ ys) = or_later (f x y) (first_in f xs ys)

-- it is found at this place, and at no earlier one
pub record Earliest {A B : Type 0} (f : A → B → Option Fault) (xs : List A) (ys : List B) (fault : Fault) : Type 0 where
  pub place : ℕ
  pub first : A
  pub second : B
  pub first_is : slice_get xs place ≡ Some first
  pub second_is : slice_get ys place ≡ Some second
  pub found : f first second ≡ Some fault
  pub before : (k : ℕ) (a : A) (b : B) → k < place → slice_get xs k ≡ Some a → slice_get ys k ≡ Some b → f a b ≡ None

-- nothing is found at any place
pub found_nowhere : {A B : Type 0} (f : A → B → Option Fault) (xs : List A) (ys : List B) → first_in f xs ys ≡ None → (k : ℕ) (a : A) (b : B) → slice_get xs k ≡ Some a
    → slice_get ys k ≡ Some b → f a b ≡ None
found_nowhere f [] ys none k a b at also = cc
found_nowhere f (x ∷ xs) [] none k a b at also = cc
found_nowhere f (x ∷ xs) (y ∷ ys) none zero a b at also =
    let one : x ≡ a = cc in
    let two : y ≡ b = cc in
    subst (λ z. f z b ≡ None) one (subst (λ z. f x z ≡ None) two (or_none (f x y) (first_in f xs ys) none).0)
found_nowhere f (x ∷ xs) (y ∷ ys) none (suc k) a b at also = found_nowhere f xs ys (or_none (f x y) (first_in f xs ys) none).1 k a b at also

-- one place later
later_by : {A B : Type 0} (f : A → B → Option Fault) (x : A) (y : B) (xs : List A) (ys : List B) (fault : Fault) → f x y ≡ None → Earliest f xs ys fault
    → Earliest f (x ∷ xs) (y ∷ ys) fault
later_by {A} {B} f x y xs ys fault none e = record {
  place = suc e.place;
  first = e.first;
  second = e.second;
  first_is = e.first_is;
  second_is = e.second_is;
  found = e.found;
  before = before;
} where
  before : (k : ℕ) (a : A) (b : B) → k < suc e.place → slice_get (x ∷ xs) k ≡ Some a → slice_get (y ∷ ys) k ≡ Some b → f a b ≡ None
  before zero a b less at also =
      let one : x ≡ a = cc in
      let two : y ≡ b = cc in
      subst (λ z. f z b ≡ None) one (subst (λ z. f x z ≡ None) two none)
  before (suc k) a b less at also = e.before k a b (omega arith) at also

-- it is found at the first place that has something
pub found_first : {A B : Type 0} (f : A → B → Option Fault) (xs : List A) (ys : List B) (fault : Fault) → first_in f xs ys ≡ Some fault → Earliest f xs ys fault
found_first f [] ys fault is = cc
found_first f (x ∷ xs) [] fault is = cc
found_first f (x ∷ xs) (y ∷ ys) fault is = elim (or_some (f x y) (first_in f xs ys) fault is) [
  | inl here ↦ record { place = 0; first = x; second = y; first_is = refl; second_is = refl; found = here; before = λ k a b less at also. absurd (omega arith) }
  | inr later ↦ later_by f x y xs ys fault later.0 (found_first f xs ys fault later.1)
]
