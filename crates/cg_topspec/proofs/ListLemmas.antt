-- Laws of the words on lists.
use Rattle.std.proofs.Common.{Bool, List, None, Some, [], ap, arith, cond, false, find, flat_map, get_or, inl, inr, length, map, refl, subst, suc, sym, true, zero, ℕ, ◌++◌, ◌+◌, ◌<◌, ◌∙◌, ◌∷◌, ◌≡◌, ◌≤◌, ◌⊎◌}
use Rattle.std.proofs.lemmas.Bool.{cases_lt}
use Rattle.cg_svspec.specs.Names.{Among}
use Rattle.cg_topspec.specs.Top.{counting}

pub in_front : {A : Type 0} (x : A) (xs ys : List A) → Among x xs → Among x (xs ++ ys)
in_front x [] ys a = absurd a
in_front x (y ∷ xs) ys (inl e) = inl e
in_front x (y ∷ xs) ys (inr a) = inr (in_front x xs ys a)

pub in_back : {A : Type 0} (x : A) (xs ys : List A) → Among x ys → Among x (xs ++ ys)
in_back x [] ys a = a
in_back x (y ∷ xs) ys a = inr (in_back x xs ys a)

pub in_parts : {A : Type 0} (x : A) (xs ys : List A) → Among x (xs ++ ys) → Among x xs ⊎ Among x ys
in_parts x [] ys a = inr a
in_parts x (y ∷ xs) ys (inl e) = inl (inl e)
in_parts x (y ∷ xs) ys (inr a) = up (in_parts x xs ys a) where
  up : Among x xs ⊎ Among x ys → Among x (y ∷ xs) ⊎ Among x ys
  up (inl b) = inl (inr b)
  up (inr b) = inr b

-- an element of a part is one of all
pub in_each : {A B : Type 0} (f : A → List B) (xs : List A) (x : A) (y : B) → Among x xs → Among y (f x) → Among y (flat_map f xs)
in_each f [] x y a b = absurd a
in_each f (z ∷ xs) x y (inl e) b = in_front y (f z) (flat_map f xs) (subst (λ u. Among y (f u)) e b)
in_each f (z ∷ xs) x y (inr a) b = in_back y (f z) (flat_map f xs) (in_each f xs x y a b)

-- and one of all is one of a part
pub from_each : {A B : Type 0} (f : A → List B) (xs : List A) (y : B) → Among y (flat_map f xs) → (x : A) × Among x xs × Among y (f x)
from_each f [] y a = absurd a
from_each {A} f (z ∷ xs) y a = by (from_each f xs y) (in_parts y (f z) (flat_map f xs) a) where
  by : (Among y (flat_map f xs) → (x : A) × Among x xs × Among y (f x)) → Among y (f z) ⊎ Among y (flat_map f xs) → (x : A) × Among x (z ∷ xs) × Among y (f x)
  by again (inl b) = (z, inl refl, b)
  by again (inr b) = let h = again b in (h.0, inr h.1, h.2)

pub in_map : {A B : Type 0} (f : A → B) (xs : List A) (x : A) → Among x xs → Among (f x) (map f xs)
in_map f [] x a = absurd a
in_map f (z ∷ xs) x (inl e) = inl (ap f e)
in_map f (z ∷ xs) x (inr a) = inr (in_map f xs x a)

pub from_map : {A B : Type 0} (f : A → B) (xs : List A) (y : B) → Among y (map f xs) → (x : A) × Among x xs × (y ≡ f x)
from_map f [] y a = absurd a
from_map f (z ∷ xs) y (inl e) = (z, inl refl, e)
from_map f (z ∷ xs) y (inr a) = let h = from_map f xs y a in (h.0, inr h.1, h.2)

pub from_counting : (i n k : ℕ) → Among k (counting i n) → (i ≤ k) × (k < i + n)
from_counting i zero k a = absurd a
from_counting i (suc n) k (inl e) = (omega (arith, e), omega (arith, e))
from_counting i (suc n) k (inr a) = let h = from_counting (suc i) n k a in (omega (arith, h.0), omega (arith, h.1))

pub in_counting : (i n k : ℕ) → i ≤ k → k < i + n → Among k (counting i n)
in_counting i zero k low up = absurd (omega (arith, low, up))
in_counting i (suc n) k low up = by (λ more. in_counting (suc i) n k more (omega (arith, up))) (cases_lt i k) where
  by : (suc i ≤ k → Among k (counting (suc i) n)) → (i < k) ⊎ (k ≤ i) → Among k (counting i (suc n))
  by again (inl b) = inr (again (omega (arith, b)))
  by again (inr b) = inl (omega (arith, low, b))

-- what is found is an element that passes
pub found_in : {A : Type 0} (p : A → Bool) (xs : List A) (x : A) → find p xs ≡ Some x → Among x xs × (p x ≡ true)
found_in p [] x e = cc
found_in p (y ∷ xs) x e = by (found_in p xs x) (p y) refl e where
  by : (find p xs ≡ Some x → Among x xs × (p x ≡ true)) → (b : Bool) → p y ≡ b → cond b (Some y) (find p xs) ≡ Some x → Among x (y ∷ xs) × (p x ≡ true)
  by again true is found = let same : y ≡ x = cc in (inl (sym same), subst (λ z. p z ≡ true) same is)
  by again false is found = let h = again found in (inr h.0, h.1)

-- where none is found, none passes
pub none_in : {A : Type 0} (p : A → Bool) (xs : List A) → find p xs ≡ None → (x : A) → Among x xs → p x ≡ false
none_in p [] e x a = absurd a
none_in p (y ∷ xs) e x a = by (λ f. none_in p xs f x) (p y) refl e a where
  by : (find p xs ≡ None → Among x xs → p x ≡ false) → (b : Bool) → p y ≡ b → cond b (Some y) (find p xs) ≡ None → Among x (y ∷ xs) → p x ≡ false
  by again true is found a = cc
  by again false is found (inl s) = ap p s ∙ is
  by again false is found (inr a) = again found a

-- where none passes, none is found
pub none_found : {A : Type 0} (p : A → Bool) (xs : List A) → ((x : A) → Among x xs → p x ≡ false) → find p xs ≡ None
none_found p [] h = refl
none_found p (y ∷ xs) h = rw (h y (inl refl)) (none_found p xs (λ x a. h x (inr a)))

-- the one element that passes is found
pub only_found : {A : Type 0} (p : A → Bool) (xs : List A) (x : A) → Among x xs → p x ≡ true → ((y : A) → Among y xs → p y ≡ true → y ≡ x) → find p xs ≡ Some x
only_found p [] x a is only = absurd a
only_found p (y ∷ xs) x a is only = by (λ a. only_found p xs x a is (λ z b. only z (inr b))) (p y) refl a where
  by : (Among x xs → find p xs ≡ Some x) → (b : Bool) → p y ≡ b → Among x (y ∷ xs) → cond b (Some y) (find p xs) ≡ Some x
  by again true here a = ap Some (only y (inl refl) here)
  by again false here (inl e) = let same : p x ≡ p y = ap p e in cc
  by again false here (inr a) = again a

-- nothing stands past the end
pub nth_past : {A : Type 0} (xs : List A) (i : ℕ) (d : A) → length xs ≤ i → get_or xs i d ≡ d
nth_past [] i d h = refl
nth_past (x ∷ xs) zero d h = absurd (omega (arith, h))
nth_past (x ∷ xs) (suc i) d h = nth_past xs i d (omega (arith, h))
