-- There is one list that rises and has these members.
use Rattle.std.proofs.Common.{◌≡◌, List, [], ◌∷◌, ◌++◌, ◌⊎◌, inl, inr, refl, sym, subst, ◌∙◌}
use Rattle.std.specs.Prelude.{flat_map}
use Rattle.cg_svspec.specs.Names.{Among}
use Rattle.cg_svspec.specs.Printable.{AllOf}
use Rattle.cg_nodes.specs.Order.{Rises}

pub all_among : {X : Type 0} (P : X → Type 0) (xs : List X) (x : X) → AllOf P xs → Among x xs → P x
all_among P [] x all among = absurd among
all_among P (y ∷ ys) x all (inl is) = subst P (sym is) all.0
all_among P (y ∷ ys) x all (inr among) = all_among P ys x all.1 among

pub among_all : {X : Type 0} (P : X → Type 0) (xs : List X) → ((x : X) → Among x xs → P x) → AllOf P xs
among_all P [] each = tt
among_all P (y ∷ ys) each = (each y (inl refl), among_all P ys (λ x among. each x (inr among)))

-- where no two items stand before each other, two lists that rise and have the same members are one
pub one_rising : {X : Type 0} (R : X → X → Type 0) → ((x y : X) → R x y → R y x → ⊥) → (xs ys : List X) → Rises R xs → Rises R ys
    → ((x : X) → Among x xs → Among x ys) → ((x : X) → Among x ys → Among x xs) → xs ≡ ys
one_rising R once [] [] up down there back = refl
one_rising R once [] (y ∷ ys) up down there back = absurd (back y (inl refl))
one_rising R once (x ∷ xs) [] up down there back = absurd (there x (inl refl))
one_rising R once (x ∷ xs) (y ∷ ys) up down there back =
    let heads : x ≡ y = same_head R once x y xs ys up down (there x (inl refl)) (back y (inl refl)) in
    let tails : xs ≡ ys = one_rising R once xs ys up.1 down.1
    (λ z among. in_tail R once x y xs ys up heads z among (there z (inr among)))
    (λ z among. in_tail R once y x ys xs down (sym heads) z among (back z (inr among))) in
    λ i. heads i ∷ tails i
  where
    same_head : {X : Type 0} (R : X → X → Type 0) → ((x y : X) → R x y → R y x → ⊥) → (x y : X) (xs ys : List X) → Rises R (x ∷ xs) → Rises R (y ∷ ys)
        → Among x (y ∷ ys) → Among y (x ∷ xs) → x ≡ y
    same_head R once x y xs ys up down (inl is) other = is
    same_head R once x y xs ys up down (inr there) (inl is) = sym is
    same_head R once x y xs ys up down (inr there) (inr back) = absurd (once x y (all_among (R x) xs y up.0 back) (all_among (R y) ys x down.0 there))

    in_tail : {X : Type 0} (R : X → X → Type 0) → ((x y : X) → R x y → R y x → ⊥) → (x y : X) (xs ys : List X) → Rises R (x ∷ xs) → x ≡ y
        → (z : X) → Among z xs → Among z (y ∷ ys) → Among z ys
    in_tail R once x y xs ys up heads z among (inr there) = there
    in_tail R once x y xs ys up heads z among (inl is) =
        let before : R x z = all_among (R x) xs z up.0 among in
        let itself : R x x = subst (R x) (is ∙ sym heads) before in
        absurd (once x x itself itself)

-- two lists that rise, the first before the second
pub rises_append : {X : Type 0} (R : X → X → Type 0) (xs ys : List X) → Rises R xs → Rises R ys → ((x y : X) → Among x xs → Among y ys → R x y) → Rises R (xs ++ ys)
rises_append R [] ys up down across = down
rises_append R (x ∷ xs) ys up down across = (
  all_append (R x) xs ys up.0 (among_all (R x) ys (λ y among. across x y (inl refl) among)),
  rises_append R xs ys up.1 down (λ z y a b. across z y (inr a) b),
)
  where
    all_append : {X : Type 0} (P : X → Type 0) (xs ys : List X) → AllOf P xs → AllOf P ys → AllOf P (xs ++ ys)
    all_append P [] ys a b = b
    all_append P (x ∷ xs) ys a b = (a.0, all_append P xs ys a.1 b)

-- ---- lists of lists

pub among_either : {X : Type 0} (x : X) (xs ys : List X) → Among x (xs ++ ys) → Among x xs ⊎ Among x ys
among_either x [] ys among = inr among
among_either x (y ∷ xs) ys (inl is) = inl (inl is)
among_either x (y ∷ xs) ys (inr among) = elim (among_either x xs ys among) [ inl a ↦ inl (inr a) | inr b ↦ inr b ]

pub among_left : {X : Type 0} (x : X) (xs ys : List X) → Among x xs → Among x (xs ++ ys)
among_left x [] ys among = absurd among
among_left x (y ∷ xs) ys (inl is) = inl is
among_left x (y ∷ xs) ys (inr among) = inr (among_left x xs ys among)

pub among_right : {X : Type 0} (x : X) (xs ys : List X) → Among x ys → Among x (xs ++ ys)
among_right x [] ys among = among
among_right x (y ∷ xs) ys among = inr (among_right x xs ys among)

pub record FromList {X Y : Type 0} (g : X → List Y) (xs : List X) (y : Y) : Type 0 where
  pub item : X
  pub among : Among item xs
  pub found : Among y (g item)

pub among_flat_map : {X Y : Type 0} (g : X → List Y) (xs : List X) (y : Y) → Among y (flat_map g xs) → FromList g xs y
among_flat_map g [] y among = absurd among
among_flat_map g (x ∷ xs) y among =
    elim (among_either y (g x) (flat_map g xs) among) [
      | inl here ↦ record { item = x; among = inl refl; found = here }
      | inr later ↦ let one = among_flat_map g xs y later in record { item = one.item; among = inr one.among; found = one.found }
    ]

pub flat_map_among : {X Y : Type 0} (g : X → List Y) (xs : List X) (x : X) (y : Y) → Among x xs → Among y (g x) → Among y (flat_map g xs)
flat_map_among g [] x y among found = absurd among
flat_map_among g (z ∷ zs) x y (inl is) found = among_left y (g z) (flat_map g zs) (subst (λ w. Among y (g w)) is found)
flat_map_among g (z ∷ zs) x y (inr among) found = among_right y (g z) (flat_map g zs) (flat_map_among g zs x y among found)

-- lists that rise, of items that rise
pub rises_flat_map : {X Y : Type 0} (R : Y → Y → Type 0) (S : X → X → Type 0) (g : X → List Y) (xs : List X) → ((x : X) → Rises R (g x))
    → ((a b : X) (p q : Y) → S a b → Among p (g a) → Among q (g b) → R p q) → Rises S xs → Rises R (flat_map g xs)
rises_flat_map R S g [] each across up = tt
rises_flat_map R S g (x ∷ xs) each across up =
    rises_append R (g x) (flat_map g xs) (each x) (rises_flat_map R S g xs each across up.1)
    (λ p q in_x in_rest. let from = among_flat_map g xs q in_rest in across x from.item p q (all_among (S x) xs from.item up.0 from.among) in_x from.found)
