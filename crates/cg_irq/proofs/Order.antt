-- Lists that rise: there is one with these members.
use Rattle.std.proofs.Common.{◌≡◌, ◌<◌, ℕ, zero, suc, List, [], ◌∷◌, ◌++◌, ◌⊎◌, Some, inl, inr, refl, sym, subst, ◌∙◌, arith}
use Rattle.std.specs.List.{slice_get}
use Rattle.cg_svspec.specs.Names.{Among}
use Rattle.cg_svspec.specs.Printable.{AllOf}
use Rattle.cg_desc.proofs.Numbered.{item_among, item_number}

-- each item stands in this relation to all behind it
abbrev pub Rises : {X : Type 0} → (X → X → Type 0) → List X → Type 0
Rises R [] = Unit {0}
Rises R (x ∷ xs) = AllOf (R x) xs × Rises R xs

pub all_among : {X : Type 0} (P : X → Type 0) (xs : List X) (x : X) → AllOf P xs → Among x xs → P x
all_among P [] x all among = absurd among
all_among P (y ∷ ys) x all (inl is) = subst P (sym is) all.0
all_among P (y ∷ ys) x all (inr among) = all_among P ys x all.1 among

pub among_all : {X : Type 0} (P : X → Type 0) (xs : List X) → ((x : X) → Among x xs → P x) → AllOf P xs
among_all P [] each = tt
among_all P (y ∷ ys) each = (each y (inl refl), among_all P ys (λ x among. each x (inr among)))

-- where no two items stand before each other, two lists that rise and have the same members are one
pub one_rising : {X : Type 0} (R : X → X → Type 0) → ((x y : X) → R x y → R y x → ⊥) → (xs ys : List X) → Rises R xs → Rises R ys
    → ((x : X) → Among x xs → Among x ys) → ((x : X) → Among x ys → Among x xs) → xs ≡ ys
one_rising R once [] [] up down there back = refl
one_rising R once [] (y ∷ ys) up down there back = absurd (back y (inl refl))
one_rising R once (x ∷ xs) [] up down there back = absurd (there x (inl refl))
one_rising R once (x ∷ xs) (y ∷ ys) up down there back =
    let heads : x ≡ y = same_head R once x y xs ys up down (there x (inl refl)) (back y (inl refl)) in
    let tails : xs ≡ ys = one_rising R once xs ys up.1 down.1
    (λ z among. in_tail R once x y xs ys up heads z among (there z (inr among)))
    (λ z among. in_tail R once y x ys xs down (sym heads) z among (back z (inr among))) in
    λ i. heads i ∷ tails i
  where
    same_head : {X : Type 0} (R : X → X → Type 0) → ((x y : X) → R x y → R y x → ⊥) → (x y : X) (xs ys : List X) → Rises R (x ∷ xs) → Rises R (y ∷ ys)
        → Among x (y ∷ ys) → Among y (x ∷ xs) → x ≡ y
    same_head R once x y xs ys up down (inl is) other = is
    same_head R once x y xs ys up down (inr there) (inl is) = sym is
    same_head R once x y xs ys up down (inr there) (inr back) = absurd (once x y (all_among (R x) xs y up.0 back) (all_among (R y) ys x down.0 there))

    in_tail : {X : Type 0} (R : X → X → Type 0) → ((x y : X) → R x y → R y x → ⊥) → (x y : X) (xs ys : List X) → Rises R (x ∷ xs) → x ≡ y
        → (z : X) → Among z xs → Among z (y ∷ ys) → Among z ys
    in_tail R once x y xs ys up heads z among (inr there) = there
    in_tail R once x y xs ys up heads z among (inl is) =
        let before : R x z = all_among (R x) xs z up.0 among in
        let itself : R x x = subst (R x) (is ∙ sym heads) before in
        absurd (once x x itself itself)

-- two lists that rise, the first before the second
pub rises_append : {X : Type 0} (R : X → X → Type 0) (xs ys : List X) → Rises R xs → Rises R ys → ((x y : X) → Among x xs → Among y ys → R x y) → Rises R (xs ++ ys)
rises_append R [] ys up down across = down
rises_append R (x ∷ xs) ys up down across = (
  all_append (R x) xs ys up.0 (among_all (R x) ys (λ y among. across x y (inl refl) among)),
  rises_append R xs ys up.1 down (λ z y a b. across z y (inr a) b),
)
  where
    all_append : {X : Type 0} (P : X → Type 0) (xs ys : List X) → AllOf P xs → AllOf P ys → AllOf P (xs ++ ys)
    all_append P [] ys a b = b
    all_append P (x ∷ xs) ys a b = (a.0, all_append P xs ys a.1 b)

-- ---- lists of lists

pub among_either : {X : Type 0} (x : X) (xs ys : List X) → Among x (xs ++ ys) → Among x xs ⊎ Among x ys
among_either x [] ys among = inr among
among_either x (y ∷ xs) ys (inl is) = inl (inl is)
among_either x (y ∷ xs) ys (inr among) = elim (among_either x xs ys among) [ inl a ↦ inl (inr a) | inr b ↦ inr b ]

pub among_left : {X : Type 0} (x : X) (xs ys : List X) → Among x xs → Among x (xs ++ ys)
among_left x [] ys among = absurd among
among_left x (y ∷ xs) ys (inl is) = inl is
among_left x (y ∷ xs) ys (inr among) = inr (among_left x xs ys among)

pub among_right : {X : Type 0} (x : X) (xs ys : List X) → Among x ys → Among x (xs ++ ys)
among_right x [] ys among = among
among_right x (y ∷ xs) ys among = inr (among_right x xs ys among)

-- ---- by places

-- each item stands in this relation to those at later places
abbrev pub RisesByPlace : {X : Type 0} → (X → X → Type 0) → List X → Type 0
RisesByPlace {X} R xs = (i j : ℕ) (a b : X) → slice_get xs i ≡ Some a → slice_get xs j ≡ Some b → i < j → R a b

pub by_place : {X : Type 0} (R : X → X → Type 0) (xs : List X) → Rises R xs → RisesByPlace R xs
by_place R [] up i j a b at_a at_b less = cc
by_place R (x ∷ xs) up zero zero a b at_a at_b less = absurd (omega (arith, less))
by_place R (x ∷ xs) up zero (suc j) a b at_a at_b less = let same : x ≡ a = cc in subst (λ y. R y b) same (all_among (R x) xs b up.0 (item_among xs j b at_b))
by_place R (x ∷ xs) up (suc i) zero a b at_a at_b less = absurd (omega (arith, less))
by_place R (x ∷ xs) up (suc i) (suc j) a b at_a at_b less = by_place R xs up.1 i j a b at_a at_b (omega (arith, less))

pub from_places : {X : Type 0} (R : X → X → Type 0) (xs : List X) → RisesByPlace R xs → Rises R xs
from_places R [] up = tt
from_places R (x ∷ xs) up = (
  among_all (R x) xs (λ y among. let at = item_number xs y among in up 0 (suc at.0) x y refl at.1 (omega arith)),
  from_places R xs (λ i j a b at_a at_b less. up (suc i) (suc j) a b at_a at_b (omega (arith, less))),
)

-- two lists that rise by places and have the same members are one
pub one_by_place : {X : Type 0} (R : X → X → Type 0) → ((x y : X) → R x y → R y x → ⊥) → (xs ys : List X) → RisesByPlace R xs → RisesByPlace R ys
    → ((x : X) → Among x xs → Among x ys) → ((x : X) → Among x ys → Among x xs) → xs ≡ ys
one_by_place R once xs ys up down there back = one_rising R once xs ys (from_places R xs up) (from_places R ys down) there back
