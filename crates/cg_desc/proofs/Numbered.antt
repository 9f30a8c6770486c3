-- Items of lists by their numbers: which is there, which passes a test, and which is the first that does.
use Rattle.std.proofs.Common.{◌≡◌, ℕ, zero, suc, ◌+◌, ◌<◌, ◌≤◌, ◌⊎◌, Bool, true, false, cond, not, ◌||◌, nat_lt, List, [], ◌∷◌, get_or, length, map, Option, Some, None, inl, inr, refl, sym, ap, subst, ◌∙◌, arith}
use Rattle.std.specs.List.{list_any, position, position_or_len, slice_get}
use Rattle.std.specs.Option.{option_map}
use Rattle.std.proofs.lemmas.Bool.{cases_lt, false≢true}
use Rattle.std.proofs.lemmas.Bool.Decides.{nat_tests}
use Rattle.std.proofs.lemmas.List.Quantifiers.{position-Some}
use Rattle.std.proofs.lemmas.Option.{get_or_from_slice_get, slice_get-get_or, slice_get-map}
use Rattle.cg_svspec.specs.Names.{Among}

-- ---- what is there

-- one number has one item
pub same_item : {A : Type 0} (xs : List A) (i : ℕ) (x y : A) → slice_get xs i ≡ Some x → slice_get xs i ≡ Some y → x ≡ y
same_item xs i x y a b = let e : Some x ≡ Some y = sym a ∙ b in cc

-- each number below the length has an item
pub item_at : {A : Type 0} (xs : List A) (i : ℕ) → i < length xs → (x : A) × (slice_get xs i ≡ Some x)
item_at [] i less = absurd (omega arith)
item_at (x ∷ xs) zero less = (x, refl)
item_at (x ∷ xs) (suc i) less = item_at xs i (omega arith)

-- what has a number is among the items
pub item_among : {A : Type 0} (xs : List A) (i : ℕ) (x : A) → slice_get xs i ≡ Some x → Among x xs
item_among [] i x is = cc
item_among (y ∷ xs) zero x is = let same : x ≡ y = cc in inl same
item_among (y ∷ xs) (suc i) x is = inr (item_among xs i x is)

-- what is among the items has a number
pub item_number : {A : Type 0} (xs : List A) (x : A) → Among x xs → (i : ℕ) × (slice_get xs i ≡ Some x)
item_number [] x there = absurd there
item_number (y ∷ xs) x (inl same) = (0, ap Some (sym same))
item_number (y ∷ xs) x (inr later) = let there = item_number xs x later in (suc there.0, there.1)

-- of the images
pub image_at : {A B : Type 0} (v : A → B) (xs : List A) (i : ℕ) (x : A) → slice_get xs i ≡ Some x → slice_get (map v xs) i ≡ Some (v x)
image_at v xs i x is = slice_get-map v xs i ∙ ap (option_map v) is

-- an image is one of an item
pub image_of : {A B : Type 0} (v : A → B) (xs : List A) (i : ℕ) (y : B) → slice_get (map v xs) i ≡ Some y → (x : A) × (slice_get xs i ≡ Some x) × (v x ≡ y)
image_of v [] i y is = cc
image_of v (x ∷ xs) zero y is = let same : v x ≡ y = cc in (x, refl, same)
image_of v (x ∷ xs) (suc i) y is = image_of v xs i y is

-- ---- what passes a test

-- an item passes
pub one_passes : {A : Type 0} (p : A → Bool) (xs : List A) → list_any p xs ≡ true → (i : ℕ) × (x : A) × (slice_get xs i ≡ Some x) × (p x ≡ true)
one_passes p [] is = absurd (false≢true is)
one_passes {A} p (x ∷ xs) is = by (λ more. one_passes p xs more) (p x) refl is where
  by : (list_any p xs ≡ true → (i : ℕ) × (y : A) × (slice_get xs i ≡ Some y) × (p y ≡ true)) → (b : Bool) → p x ≡ b → (b || list_any p xs) ≡ true
      → (i : ℕ) × (y : A) × (slice_get (x ∷ xs) i ≡ Some y) × (p y ≡ true)
  by more true passes is = (0, x, refl, passes)
  by more false fails is = let later = more is in (suc later.0, later.1, later.2, later.3)

-- where an item passes, one does
pub passes_one : {A : Type 0} (p : A → Bool) (xs : List A) (i : ℕ) (x : A) → slice_get xs i ≡ Some x → p x ≡ true → list_any p xs ≡ true
passes_one p [] i x is passes = cc
passes_one p (y ∷ xs) zero x is passes = let same : x ≡ y = cc in let e : p y ≡ true = subst (λ z. p z ≡ true) same passes in rw e refl
passes_one p (y ∷ xs) (suc i) x is passes = by (p y) (passes_one p xs i x is passes) where
  by : (b : Bool) → list_any p xs ≡ true → (b || list_any p xs) ≡ true
  by true later = refl
  by false later = later

-- ---- the first that passes

pub record IsFirstItem {A : Type 0} (p : A → Bool) (xs : List A) (k : ℕ) : Type 0 where
  pub item : A
  pub is : slice_get xs k ≡ Some item
  pub passes : p item ≡ true
  pub before : (j : ℕ) (y : A) → j < k → slice_get xs j ≡ Some y → p y ≡ false

-- the number that is found is the first one's
pub found_first : {A : Type 0} (p : A → Bool) (xs : List A) (k : ℕ) → position p xs ≡ Some k → IsFirstItem p xs k
found_first p [] k is = cc
found_first {A} p (x ∷ xs) k is =
    let facts = position-Some p (x ∷ xs) k x is in
    record {
      item = get_or (x ∷ xs) k x;
      is = slice_get-get_or (x ∷ xs) k x facts.0;
      passes = facts.1;
      before = λ j y less there. before facts.2 j y less there;
    } where
      before : ((j : ℕ) → j < k → p (get_or (x ∷ xs) j x) ≡ false) → (j : ℕ) (y : A) → j < k → slice_get (x ∷ xs) j ≡ Some y → p y ≡ false
      before none j y less there = subst (λ z. p z ≡ false) (get_or_from_slice_get (x ∷ xs) j y x there) (none j less)

-- a number that is not found
not_less : (m n : ℕ) (b : Bool) → nat_lt m n ≡ b → cond b (Some m) None ≡ None → n ≤ m
not_less m n true e is = cc
not_less m n false e is = grind (arith, nat_tests)

none_before_end : {A : Type 0} (p : A → Bool) (xs : List A) → length xs ≤ position_or_len p xs → (j : ℕ) (y : A) → slice_get xs j ≡ Some y → p y ≡ false
none_before_end p [] most j y there = cc
none_before_end {A} p (x ∷ xs) most j y there = by (λ most j there. none_before_end p xs most j y there) (p x) refl most j there where
  by : (length xs ≤ position_or_len p xs → (j : ℕ) → slice_get xs j ≡ Some y → p y ≡ false) → (b : Bool) → p x ≡ b
      → length (x ∷ xs) ≤ cond (not b) (1 + position_or_len p xs) 0 → (j : ℕ) → slice_get (x ∷ xs) j ≡ Some y → p y ≡ false
  by more true passes most j there = absurd (omega arith)
  by more false fails most zero there = let same : x ≡ y = cc in subst (λ z. p z ≡ false) same fails
  by more false fails most (suc j) there = more (omega arith) j there

-- where none is found, no item passes
pub none_found : {A : Type 0} (p : A → Bool) (xs : List A) → position p xs ≡ None → (j : ℕ) (y : A) → slice_get xs j ≡ Some y → p y ≡ false
none_found p xs is = none_before_end p xs (not_less (position_or_len p xs) (length xs) _ refl is)

-- there is one first item
pub first_once : {A : Type 0} (p : A → Bool) (xs : List A) (j k : ℕ) → IsFirstItem p xs j → IsFirstItem p xs k → j ≡ k
first_once p xs j k a b = by (cases_lt j k) (cases_lt k j) where
  by : (j < k) ⊎ (k ≤ j) → (k < j) ⊎ (j ≤ k) → j ≡ k
  by (inl less) e = absurd (false≢true (sym (b.before j a.item less a.is) ∙ a.passes))
  by (inr more) (inl less) = absurd (false≢true (sym (a.before k b.item less b.is) ∙ b.passes))
  by (inr more) (inr most) = omega arith

-- and it is the one that is found
pub first_found : {A : Type 0} (p : A → Bool) (xs : List A) (k : ℕ) → IsFirstItem p xs k → position p xs ≡ Some k
first_found {A} p xs k first = by (position p xs) refl where
  by : (o : Option ℕ) → position p xs ≡ o → o ≡ Some k
  by None is = absurd (false≢true (sym (none_found p xs is k first.item first.is) ∙ first.passes))
  by (Some j) is = ap Some (first_once p xs j k (found_first p xs j is) first)
