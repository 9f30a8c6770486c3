-- A list of names without repeats among as many others has just these.
use Rattle.std.proofs.Common.{◌≡◌, ℕ, suc, ◌⊎◌, inl, inr, List, [], ◌∷◌, length, refl, sym, subst, ◌∙◌, arith}
use Rattle.cg_svspec.specs.Names.{Among, Differ}

-- the list without a member
without : (xs : List (List ℕ)) (y : List ℕ) → Among y xs → List (List ℕ)
without [] y a = absurd a
without (x ∷ xs) y (inl e) = xs
without (x ∷ xs) y (inr a) = x ∷ without xs y a

-- has one name less
length-without : (xs : List (List ℕ)) (y : List ℕ) (a : Among y xs) → length xs ≡ suc (length (without xs y a))
unfolding without
length-without [] y a = absurd a
length-without (x ∷ xs) y (inl e) = refl
length-without (x ∷ xs) y (inr a) = let rest = length-without xs y a in omega arith

-- has every other name
still : (xs : List (List ℕ)) (y : List ℕ) (a : Among y xs) (z : List ℕ) → Among z xs → (z ≡ y → ⊥) → Among z (without xs y a)
unfolding without
still [] y a z b other = absurd a
still (x ∷ xs) y (inl e) z (inl f) other = absurd (other (f ∙ sym e))
still (x ∷ xs) y (inl e) z (inr b) other = b
still (x ∷ xs) y (inr a) z (inl f) other = inl f
still (x ∷ xs) y (inr a) z (inr b) other = inr (still xs y a z b other)

-- and each name is the member or one of them
member_or_left : (xs : List (List ℕ)) (y : List ℕ) (a : Among y xs) (z : List ℕ) → Among z xs → (z ≡ y) ⊎ Among z (without xs y a)
unfolding without
member_or_left [] y a z b = absurd a
member_or_left (x ∷ xs) y (inl e) z (inl f) = inl (f ∙ sym e)
member_or_left (x ∷ xs) y (inl e) z (inr b) = inr b
member_or_left (x ∷ xs) y (inr a) z (inl f) = inr (inl f)
member_or_left (x ∷ xs) y (inr a) z (inr b) = up (member_or_left xs y a z b) where
  up : (z ≡ y) ⊎ Among z (without xs y a) → (z ≡ y) ⊎ Among z (x ∷ without xs y a)
  up (inl e) = inl e
  up (inr c) = inr (inr c)

-- Names that have all of as many different ones have no others.
pub covered : (xs ys : List (List ℕ)) → Differ ys → length xs ≡ length ys → ((y : List ℕ) → Among y ys → Among y xs) → (x : List ℕ) → Among x xs → Among x ys
covered [] [] d len all x a = a
covered (z ∷ xs) [] d len all x a = absurd (omega arith)
covered xs (y ∷ ys) d len all x a =
    let here = all y (inl refl) in
    let less = length-without xs y here in
    by (member_or_left xs y here x a)
    (covered (without xs y here) ys d.1 (omega arith) (λ z b. still xs y here z (all z (inr b)) (λ e. d.0 (subst (λ m. Among m ys) e b))) x) where
      by : (x ≡ y) ⊎ Among x (without xs y (all y (inl refl))) → (Among x (without xs y (all y (inl refl))) → Among x ys) → Among x (y ∷ ys)
      by (inl e) rest = inl e
      by (inr b) rest = inr (rest b)
