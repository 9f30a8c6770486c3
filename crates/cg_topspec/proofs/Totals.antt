-- Sums over lists of any things: over lists put together, in either order, and where one thing alone passes a test.
use Rattle.std.proofs.Common.{Bool, List, None, Option, Some, [], ap, arith, cond, eqb, false, filter, find, flat_map, inl, inr, map, not, refl, subst, sym, true, ℕ, ◌&&◌, ◌++◌, ◌+◌, ◌<◌, ◌∙◌, ◌∷◌, ◌≡◌}
use Rattle.std.proofs.lemmas.Bool.{eq-eqb, eqb-true}
use Rattle.cg_svspec.specs.Names.{Among}
use Rattle.cg_topspec.proofs.ApartNames.{NoneTwice, counting_once, twice_join}
use Rattle.cg_topspec.proofs.ListLemmas.{found_in, from_each, in_counting, none_in}
use Rattle.cg_topspec.specs.Top.{counting}

-- a sum over the items
abbrev pub total : {A : Type 0} → (A → ℕ) → List A → ℕ
total f [] = 0
total f (x ∷ xs) = f x + total f xs

-- a number where the test holds
abbrev pub count_if : Bool → ℕ → ℕ
count_if b n = cond b n 0

-- the number of what is there
abbrev pub if_any : {A : Type 0} → (A → ℕ) → Option A → ℕ
if_any f None = 0
if_any f (Some x) = f x

pub total_same : {A : Type 0} (f g : A → ℕ) (xs : List A) → ((x : A) → Among x xs → f x ≡ g x) → total f xs ≡ total g xs
total_same f g [] e = refl
total_same f g (x ∷ xs) e = rw (e x (inl refl), total_same f g xs (λ y a. e y (inr a))) refl

pub total_sum : {A : Type 0} (f g : A → ℕ) (xs : List A) → total (λ x. f x + g x) xs ≡ total f xs + total g xs
total_sum f g [] = omega arith
total_sum f g (x ∷ xs) = omega (arith, total_sum f g xs)

pub total_zero : {A : Type 0} (xs : List A) → total (λ x. 0) xs ≡ 0
total_zero [] = refl
total_zero (x ∷ xs) = omega (arith, total_zero xs)

-- a sum of nothing at each item
pub total_nothing : {A : Type 0} (f : A → ℕ) (xs : List A) → ((x : A) → Among x xs → f x ≡ 0) → total f xs ≡ 0
total_nothing f xs zero_each = total_same f (λ x. 0) xs zero_each ∙ total_zero xs

pub total_join : {A : Type 0} (f : A → ℕ) (xs ys : List A) → total f (xs ++ ys) ≡ total f xs + total f ys
total_join f [] ys = omega arith
total_join f (x ∷ xs) ys = omega (arith, total_join f xs ys)

pub total_flat : {A B : Type 0} (f : B → ℕ) (g : A → List B) (xs : List A) → total f (flat_map g xs) ≡ total (λ x. total f (g x)) xs
total_flat f g [] = refl
total_flat f g (x ∷ xs) = omega (arith, total_join f (g x) (flat_map g xs), total_flat f g xs)

pub total_map : {A B : Type 0} (f : B → ℕ) (g : A → B) (xs : List A) → total f (map g xs) ≡ total (λ x. f (g x)) xs
total_map f g [] = refl
total_map f g (x ∷ xs) = ap (λ n. f (g x) + n) (total_map f g xs)

-- the sums may be taken in either order
pub total_swap : {A B : Type 0} (f : A → B → ℕ) (xs : List A) (ys : List B) → total (λ x. total (f x) ys) xs ≡ total (λ y. total (λ x. f x y) xs) ys
total_swap f [] ys = sym (total_zero ys)
total_swap f (x ∷ xs) ys = rw (total_swap f xs ys) (sym (total_sum (f x) (λ y. total (λ z. f z y) xs) ys))

-- a test that does not depend on the item
pub total_if : {A : Type 0} (b : Bool) (f : A → ℕ) (xs : List A) → total (λ x. count_if b (f x)) xs ≡ count_if b (total f xs)
total_if true f xs = refl
total_if false f xs = total_zero xs

-- two tests one after the other
pub count_both : (a b : Bool) (n : ℕ) → count_if (a && b) n ≡ count_if a (count_if b n)
count_both true b n = refl
count_both false b n = refl

-- those that pass a test, and then those that do not, are all
pub total_halves : {A : Type 0} (p : A → Bool) (f : A → ℕ) (xs : List A) → total f (filter p xs ++ filter (λ x. not (p x)) xs) ≡ total f xs
total_halves {A} p f xs = total_join f (filter p xs) (filter (λ x. not (p x)) xs) ∙ both xs where
  both : (xs : List A) → total f (filter p xs) + total f (filter (λ x. not (p x)) xs) ≡ total f xs
  both [] = omega arith
  both (x ∷ xs) = by (p x) (both xs) where
    by : (b : Bool) → total f (filter p xs) + total f (filter (λ x. not (p x)) xs) ≡ total f xs
        → total f (cond b (x ∷ filter p xs) (filter p xs)) + total f (cond (not b) (x ∷ filter (λ x. not (p x)) xs) (filter (λ x. not (p x)) xs)) ≡ f x
        + total f xs
    by true h = omega (arith, h)
    by false h = omega (arith, h)

-- ---- where at most one item passes

pub total_none : {A : Type 0} (p : A → Bool) (f : A → ℕ) (xs : List A) → ((x : A) → Among x xs → p x ≡ false) → total (λ x. count_if (p x) (f x)) xs ≡ 0
total_none p f xs fail = total_nothing (λ x. count_if (p x) (f x)) xs (λ x a. rw (fail x a) refl)

fails : (b : Bool) → (b ≡ true → ⊥) → b ≡ false
fails true h = absurd (h refl)
fails false h = refl

pub total_only : {A : Type 0} (p : A → Bool) (f : A → ℕ) (xs : List A) (x : A) → NoneTwice xs → Among x xs → p x ≡ true
    → ((y : A) → Among y xs → p y ≡ true → y ≡ x)
    → total (λ y. count_if (p y) (f y)) xs ≡ f x
total_only p f [] x once a is only = absurd a
total_only p f (z ∷ xs) x once (inl e) is only =
    let passes : p z ≡ true = subst (λ y. p y ≡ true) e is in
    let rest : total (λ y. count_if (p y) (f y)) xs ≡ 0 =
    total_none p f xs (λ y b. fails (p y) (λ t. once.0 (subst (λ w. Among w xs) (only y (inr b) t ∙ e) b))) in
    let value : f x ≡ f z = ap f e in
    rw passes (omega (arith, rest, value))
total_only p f (z ∷ xs) x once (inr a) is only =
    let other : p z ≡ false = fails (p z) (λ t. once.0 (subst (λ w. Among w xs) (sym (only z (inl refl) t)) a)) in
    let rest = total_only p f xs x once.1 a is (λ y b t. only y (inr b) t) in
    rw other (omega (arith, rest))

-- what is found first is all that passes, where no two do
pub total_found : {A : Type 0} (p : A → Bool) (f : A → ℕ) (xs : List A) → NoneTwice xs → ((x y : A) → Among x xs → Among y xs → p x ≡ true → p y ≡ true → x ≡ y)
    → if_any f (find p xs) ≡ total (λ x. count_if (p x) (f x)) xs
total_found {A} p f xs once one = by (find p xs) refl where
  by : (o : Option A) → find p xs ≡ o → if_any f o ≡ total (λ x. count_if (p x) (f x)) xs
  by None e = sym (total_none p f xs (none_in p xs e))
  by (Some x) e = let h = found_in p xs x e in sym (total_only p f xs x once h.0 h.1 (λ y a t. one y x a h.0 t h.1))

-- the one number of those that are counted
pub total_number : (f : ℕ → ℕ) (n k : ℕ) → k < n → total (λ i. count_if (eqb k i) (f i)) (counting 0 n) ≡ f k
total_number f n k less =
    total_only (eqb k) f (counting 0 n) k (counting_once 0 n) (in_counting 0 n k (omega arith) (omega (arith, less))) (eq-eqb k k refl)
    (λ i a e. sym (eqb-true k i e))

-- ---- lists whose parts share nothing

pub twice_flat : {A B : Type 0} (f : A → List B) (xs : List A) → NoneTwice xs → ((x : A) → Among x xs → NoneTwice (f x))
    → ((x y : A) (b : B) → Among x xs → Among y xs → Among b (f x) → Among b (f y) → x ≡ y) → NoneTwice (flat_map f xs)
twice_flat f [] once each tells = tt
twice_flat f (x ∷ xs) once each tells =
    twice_join (f x) (flat_map f xs) (each x (inl refl)) (twice_flat f xs once.1 (λ y a. each y (inr a)) (λ y z b i j p q. tells y z b (inr i) (inr j) p q))
    (λ b i j. let from = from_each f xs b j in
    once.0 (subst (λ y. Among y xs) (sym (tells x from.0 b (inl refl) (inr from.1) i from.2)) from.1))
