-- Lists that rise, and lists of what numbers have.
use Rattle.std.proofs.Common.{◌≡◌, ℕ, zero, suc, ◌<◌, ◌≤◌, ◌⊎◌, List, [], ◌∷◌, ◌++◌, length, map, Some, inl, inr, refl, sym, ap, subst, ◌∙◌, arith}
use Rattle.std.specs.List.{slice_get}
use Rattle.std.proofs.lemmas.Bool.{cases_lt}
use Rattle.std.proofs.lemmas.List.{length-append, map-append}
use Rattle.cg_svspec.specs.Names.{Among}
use Rattle.cg_svspec.specs.Printable.{AllOf}
use Rattle.cg_svspec.proofs.NamesLemmas.{among_back, among_front, among_parts}
use Rattle.cg_desc.proofs.Numbered.{item_among, item_number}
use Rattle.cg_pinmux.specs.Listed.{below}

-- ---- each item

pub all_among : {X : Type 0} (P : X → Type 0) (xs : List X) (x : X) → AllOf P xs → Among x xs → P x
all_among P [] x all among = absurd among
all_among P (y ∷ ys) x all (inl is) = subst P (sym is) all.0
all_among P (y ∷ ys) x all (inr among) = all_among P ys x all.1 among

pub among_all : {X : Type 0} (P : X → Type 0) (xs : List X) → ((x : X) → Among x xs → P x) → AllOf P xs
among_all P [] each = tt
among_all P (y ∷ ys) each = (each y (inl refl), among_all P ys (λ x among. each x (inr among)))

pub all_at : {X : Type 0} (P : X → Type 0) (xs : List X) (i : ℕ) (x : X) → AllOf P xs → slice_get xs i ≡ Some x → P x
all_at P xs i x all is = all_among P xs x all (item_among xs i x is)

pub all_both : {X : Type 0} (P : X → Type 0) (xs ys : List X) → AllOf P xs → AllOf P ys → AllOf P (xs ++ ys)
all_both P [] ys a b = b
all_both P (x ∷ xs) ys a b = (a.0, all_both P xs ys a.1 b)

pub all_weaker : {X : Type 0} (P Q : X → Type 0) (xs : List X) → ((x : X) → P x → Q x) → AllOf P xs → AllOf Q xs
all_weaker P Q [] to all = tt
all_weaker P Q (x ∷ xs) to all = (to x all.0, all_weaker P Q xs to all.1)

-- ---- lists that rise

-- each item stands in this relation to all behind it
abbrev pub Rises : {X : Type 0} → (X → X → Type 0) → List X → Type 0
Rises R [] = Unit {0}
Rises R (x ∷ xs) = AllOf (R x) xs × Rises R xs

-- the same, said by numbers
abbrev pub InOrder : {X : Type 0} → (X → X → Type 0) → List X → Type 0
InOrder {X} R xs = (i j : ℕ) (a b : X) → slice_get xs i ≡ Some a → slice_get xs j ≡ Some b → i < j → R a b

pub rises_by_numbers : {X : Type 0} (R : X → X → Type 0) (xs : List X) → InOrder R xs → Rises R xs
rises_by_numbers R [] order = tt
rises_by_numbers R (x ∷ xs) order = (
  among_all (R x) xs (λ y among. let at = item_number xs y among in order 0 (suc at.0) x y refl at.1 (omega arith)),
  rises_by_numbers R xs (λ i j a b p q less. order (suc i) (suc j) a b p q (omega arith)),
)

pub numbers_by_rises : {X : Type 0} (R : X → X → Type 0) (xs : List X) → Rises R xs → InOrder R xs
numbers_by_rises R [] up i j a b p q less = cc
numbers_by_rises R (x ∷ xs) up i zero a b p q less = absurd (omega arith)
numbers_by_rises R (x ∷ xs) up zero (suc j) a b p q less = let e : x ≡ a = cc in subst (λ z. R z b) e (all_among (R x) xs b up.0 (item_among xs j b q))
numbers_by_rises R (x ∷ xs) up (suc i) (suc j) a b p q less = numbers_by_rises R xs up.1 i j a b p q (omega arith)

-- where no two items stand before each other, two lists that rise and have the same members are one
pub one_rising : {X : Type 0} (R : X → X → Type 0) → ((x y : X) → R x y → R y x → ⊥) → (xs ys : List X) → Rises R xs → Rises R ys
    → ((x : X) → Among x xs → Among x ys) → ((x : X) → Among x ys → Among x xs) → xs ≡ ys
one_rising R once [] [] up down there back = refl
one_rising R once [] (y ∷ ys) up down there back = absurd (back y (inl refl))
one_rising R once (x ∷ xs) [] up down there back = absurd (there x (inl refl))
one_rising R once (x ∷ xs) (y ∷ ys) up down there back =
    let heads : x ≡ y = same_head R once x y xs ys up down (there x (inl refl)) (back y (inl refl)) in
    let tails : xs ≡ ys = one_rising R once xs ys up.1 down.1
    (λ z among. in_tail R once x y xs ys up heads z among (there z (inr among)))
    (λ z among. in_tail R once y x ys xs down (sym heads) z among (back z (inr among))) in
    λ i. heads i ∷ tails i
  where
    same_head : {X : Type 0} (R : X → X → Type 0) → ((x y : X) → R x y → R y x → ⊥) → (x y : X) (xs ys : List X) → Rises R (x ∷ xs) → Rises R (y ∷ ys)
        → Among x (y ∷ ys) → Among y (x ∷ xs) → x ≡ y
    same_head R once x y xs ys up down (inl is) other = is
    same_head R once x y xs ys up down (inr there) (inl is) = sym is
    same_head R once x y xs ys up down (inr there) (inr back) = absurd (once x y (all_among (R x) xs y up.0 back) (all_among (R y) ys x down.0 there))

    in_tail : {X : Type 0} (R : X → X → Type 0) → ((x y : X) → R x y → R y x → ⊥) → (x y : X) (xs ys : List X) → Rises R (x ∷ xs) → x ≡ y
        → (z : X) → Among z xs → Among z (y ∷ ys) → Among z ys
    in_tail R once x y xs ys up heads z among (inr there) = there
    in_tail R once x y xs ys up heads z among (inl is) =
        let before : R x z = all_among (R x) xs z up.0 among in
        let itself : R x x = subst (R x) (is ∙ sym heads) before in
        absurd (once x x itself itself)

-- two lists that rise, the first before the second
pub rises_append : {X : Type 0} (R : X → X → Type 0) (xs ys : List X) → Rises R xs → Rises R ys → ((x y : X) → Among x xs → Among y ys → R x y) → Rises R (xs ++ ys)
rises_append R [] ys up down across = down
rises_append R (x ∷ xs) ys up down across = (
  all_both (R x) xs ys up.0 (among_all (R x) ys (λ y among. across x y (inl refl) among)),
  rises_append R xs ys up.1 down (λ z y a b. across z y (inr a) b),
)

-- ---- what the numbers below n have

pub below_none : {X : Type 0} (f : ℕ → List X) → below f 0 ≡ []
unfolding below
below_none f = refl

pub below_next : {X : Type 0} (f : ℕ → List X) (n : ℕ) → below f (suc n) ≡ below f n ++ f n
unfolding below
below_next f n = refl

pub record FromBelow {X : Type 0} (f : ℕ → List X) (n : ℕ) (x : X) : Type 0 where
  pub number : ℕ
  pub less : number < n
  pub found : Among x (f number)

pub among_below : {X : Type 0} (f : ℕ → List X) (n : ℕ) (x : X) → Among x (below f n) → FromBelow f n x
unfolding below
among_below f zero x among = absurd among
among_below f (suc n) x among =
    elim (among_parts x (below f n) (f n) among) [
      | inl earlier ↦ let one = among_below f n x earlier in record { number = one.number; less = omega (arith, one.less); found = one.found }
      | inr last ↦ record { number = n; less = omega arith; found = last }
    ]

pub below_among : {X : Type 0} (f : ℕ → List X) (n : ℕ) (x : X) (i : ℕ) → i < n → Among x (f i) → Among x (below f n)
unfolding below
below_among f zero x i less among = absurd (omega arith)
below_among f (suc n) x i less among = by (λ earlier. below_among f n x i earlier among) (cases_lt i n) where
  by : (i < n → Among x (below f n)) → (i < n) ⊎ (n ≤ i) → Among x (below f n ++ f n)
  by front (inl earlier) = among_front x (below f n) (f n) (front earlier)
  by front (inr last) = let e : i ≡ n = omega arith in among_back x (below f n) (f n) (subst (λ k. Among x (f k)) e among)

pub rises_below : {X : Type 0} (R : X → X → Type 0) (f : ℕ → List X) (n : ℕ) → ((i : ℕ) → Rises R (f i)) → ((i j : ℕ) (x y : X) → i < j → Among x (f i) → Among y (f j) → R x y)
    → Rises R (below f n)
unfolding below
rises_below R f zero each across = tt
rises_below R f (suc n) each across =
    rises_append R (below f n) (f n) (rises_below R f n each across) (each n)
    (λ x y earlier last. let one = among_below f n x earlier in across one.number n x y one.less one.found last)

pub map_below : {X Y : Type 0} (v : X → Y) (f : ℕ → List X) (n : ℕ) → map v (below f n) ≡ below (λ i. map v (f i)) n
unfolding below
map_below v f zero = refl
map_below v f (suc n) = map-append v (below f n) (f n) ∙ ap (λ xs. xs ++ map v (f n)) (map_below v f n)

pub length_below : {X : Type 0} (f : ℕ → List X) (a b : ℕ) → a ≤ b → length (below f a) ≤ length (below f b)
unfolding below
length_below f a zero le = let e : a ≡ 0 = omega arith in rw e (omega arith)
length_below f a (suc b) le = by (λ less. length_below f a b less) (cases_lt a (suc b)) where
  by : (a ≤ b → length (below f a) ≤ length (below f b)) → (a < suc b) ⊎ (suc b ≤ a) → length (below f a) ≤ length (below f b ++ f b)
  by most (inl less) = omega (arith, most (omega arith), length-append (below f b) (f b))
  by most (inr more) = let e : a ≡ suc b = omega arith in rw e (omega arith)
