-- Lists that grow, item by item and part by part.
use Rattle.std.proofs.Common.{◌≡◌, ℕ, ◌+◌, ◌<◌, ◌≤◌, ◌⊎◌, inl, inr, List, [], ◌∷◌, ◌++◌, Some, length, slice_get, sym, subst, arith}
use Rattle.std.proofs.lemmas.Bool.{cases_lt}
use Rattle.std.proofs.lemmas.Option.{slice_get_within}
use Rattle.cg_svspec.specs.Names.{Among}
use Rattle.cg_space.specs.Inner.Leaves.{Adds, AtPlace, AtSome, Below}

pub either_part : {X : Type 0} (xs ys : List X) (x : X) → Among x (xs ++ ys) → Among x xs ⊎ Among x ys
either_part [] ys x among = inr among
either_part (z ∷ xs) ys x (inl is) = inl (inl is)
either_part (z ∷ xs) ys x (inr among) = elim (either_part xs ys x among) [ inl l ↦ inl (inr l) | inr r ↦ inr r ]

pub left_part : {X : Type 0} (xs ys : List X) (x : X) → Among x xs → Among x (xs ++ ys)
left_part [] ys x among = absurd among
left_part (z ∷ xs) ys x (inl is) = inl is
left_part (z ∷ xs) ys x (inr among) = inr (left_part xs ys x among)

pub right_part : {X : Type 0} (xs ys : List X) (x : X) → Among x ys → Among x (xs ++ ys)
right_part [] ys x among = among
right_part (z ∷ xs) ys x among = inr (right_part xs ys x among)

-- an item more
pub adds_item : {X : Type 0} (old new : List X) (y : X) → new ≡ old ++ y ∷ [] → Adds old new (λ x. x ≡ y)
adds_item old new y is x = (
  λ among. elim (either_part old (y ∷ []) x (subst (λ l. Among x l) is among)) [
    | inl l ↦ inl l
    | inr r ↦ elim r [ inl e ↦ inr e | inr none ↦ absurd none ]
  ],
  λ either. subst (λ l. Among x l) (sym is) (elim either [ inl l ↦ left_part old (y ∷ []) x l | inr e ↦ right_part old (y ∷ []) x (inl e) ]),
)

-- said in another way
pub adds_as : {X : Type 0} (old new : List X) (P Q : X → Type 0) → Adds old new P → ((x : X) → P x → Q x) → ((x : X) → Q x → P x) → Adds old new Q
adds_as old new P Q adds to from x = (
  λ among. elim ((adds x).0 among) [ inl l ↦ inl l | inr p ↦ inr (to x p) ],
  λ either. (adds x).1 (elim either [ inl l ↦ inl l | inr q ↦ inr (from x q) ]),
)

-- nothing at first
pub adds_none : {X : Type 0} (xs : List X) (P : ℕ → X → Type 0) → Adds xs xs (Below P 0)
adds_none xs P x = (λ among. inl among, λ either. elim either [ inl l ↦ l | inr b ↦ absurd (omega (arith, b.1)) ])

-- what is said of a number more
pub adds_next : {X : Type 0} (old now new : List X) (P : ℕ → X → Type 0) (n : ℕ) → Adds old now (Below P n) → Adds now new (P n) → Adds old new (Below P (n + 1))
adds_next {X} old now new P n before here x = (
  λ among. elim ((here x).0 among) [
    | inl l ↦ elim ((before x).0 l) [ inl o ↦ inl o | inr b ↦ inr (b.0, omega (arith, b.1), b.2) ]
    | inr p ↦ inr (n, omega arith, p)
  ],
  λ either. (here x).1 (back either),
) where
  part : (b : Below P (n + 1) x) → (b.0 < n) ⊎ (n ≤ b.0) → Among x now ⊎ P n x
  part b (inl less) = inl ((before x).1 (inr (b.0, less, b.2)))
  part b (inr more) = let same : b.0 ≡ n = omega (arith, more, b.1) in inr (subst (λ k. P k x) same b.2)

  back : Among x old ⊎ Below P (n + 1) x → Among x now ⊎ P n x
  back (inl l) = inl ((before x).1 (inl l))
  back (inr b) = part b (cases_lt b.0 n)

-- and of all places of a list
pub adds_all : {X Y : Type 0} (old new : List Y) (P : ℕ → X → Y → Type 0) (xs : List X) (n : ℕ) → length xs ≤ n → Adds old new (Below (AtPlace P xs) n) → Adds old new (AtSome P xs)
adds_all old new P xs n all adds =
    adds_as old new (Below (AtPlace P xs) n) (AtSome P xs) adds (λ y b. (b.0, b.2))
    (λ y s. (s.0, omega (arith, all, slice_get_within xs s.0 s.1.0 s.1.1), s.1))

-- the item at a place is what it says
pub adds_at : {X Y : Type 0} (old new : List Y) (P : ℕ → X → Y → Type 0) (xs : List X) (n : ℕ) (x : X) → slice_get xs n ≡ Some x → Adds old new (P n x) → Adds old new (AtPlace P xs n)
adds_at {X} {Y} old new P xs n x at adds =
    adds_as old new (P n x) (AtPlace P xs n) adds (λ y p. (x, at, p))
    (λ y s. let same : s.0 ≡ x = let h = s.1 in cc in subst (λ (z : X). P n z y) same s.2)

-- nothing more
pub adds_nothing : {X : Type 0} (xs : List X) (P : X → Type 0) → ((x : X) → ¬ P x) → Adds xs xs P
adds_nothing xs P none x = (λ among. inl among, λ either. elim either [ inl l ↦ l | inr p ↦ absurd (none x p) ])
