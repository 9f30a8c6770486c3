-- Names that are among others, and lists in which no name stands twice.
use Rattle.std.proofs.Common.{◌≡◌, ℕ, Bool, true, false, cond, ◌||◌, ◌⊎◌, inl, inr, Option, Some, None, List, [], ◌∷◌, ◌++◌, refl, sym, subst, ◌∙◌}
use Rattle.std.specs.Str.{bytes_eq}
use Rattle.std.proofs.lemmas.Slice.Eq.{bytes_eq-Decides}
use Rattle.cg_svspec.specs.Names.{is_among, first_repeat_after, first_repeat, Among, Differ}

-- a name equals itself
pub name_is_itself : (n : List ℕ) → bytes_eq n n ≡ true
name_is_itself n = (bytes_eq-Decides n n).1 refl

-- names that the test takes for one are one
pub same_name : (m n : List ℕ) → bytes_eq m n ≡ true → m ≡ n
same_name m n e = (bytes_eq-Decides m n).0 e

-- a value that is chosen by a test that fails
pub not_chosen : {A : Type 0} (b : Bool) (x y : A) → (b ≡ true → ⊥) → cond b x y ≡ y
not_chosen true x y h = absurd (h refl)
not_chosen false x y h = refl

-- the test tells whether the name is among the others
pub among_by_test : (ms : List (List ℕ)) (n : List ℕ) → is_among ms n ≡ true → Among n ms
among_by_test [] n e = cc
among_by_test (m ∷ ms) n e = by (among_by_test ms n) (bytes_eq m n) refl e where
  by : (is_among ms n ≡ true → Among n ms) → (b : Bool) → bytes_eq m n ≡ b → (b || is_among ms n) ≡ true → Among n (m ∷ ms)
  by later true is found = inl (sym (same_name m n is))
  by later false is found = inr (later found)

-- and finds each that is
pub test_of_among : (ms : List (List ℕ)) (n : List ℕ) → Among n ms → is_among ms n ≡ true
test_of_among [] n a = absurd a
test_of_among (m ∷ ms) n (inl e) = rw (e, name_is_itself m) refl
test_of_among (m ∷ ms) n (inr a) = by (test_of_among ms n a) (bytes_eq m n) where
  by : is_among ms n ≡ true → (b : Bool) → (b || is_among ms n) ≡ true
  by later true = refl
  by later false = later

-- what is among the first members is among all
pub among_front : {X : Type 0} (n : X) (xs ys : List X) → Among n xs → Among n (xs ++ ys)
among_front n [] ys a = absurd a
among_front n (x ∷ xs) ys (inl e) = inl e
among_front n (x ∷ xs) ys (inr a) = inr (among_front n xs ys a)

-- and what is among the last
pub among_back : {X : Type 0} (n : X) (xs ys : List X) → Among n ys → Among n (xs ++ ys)
among_back n [] ys a = a
among_back n (x ∷ xs) ys a = inr (among_back n xs ys a)

-- what is among all is among the first or the last
pub among_parts : {X : Type 0} (n : X) (xs ys : List X) → Among n (xs ++ ys) → Among n xs ⊎ Among n ys
among_parts n [] ys a = inr a
among_parts n (x ∷ xs) ys (inl e) = inl (inl e)
among_parts n (x ∷ xs) ys (inr a) = up (among_parts n xs ys a) where
  up : Among n xs ⊎ Among n ys → Among n (x ∷ xs) ⊎ Among n ys
  up (inl b) = inl (inr b)
  up (inr b) = inr b

-- where no name of two lists together stands twice, none does in the first
pub differ_front : (xs ys : List (List ℕ)) → Differ (xs ++ ys) → Differ xs
differ_front [] ys d = tt
differ_front (x ∷ xs) ys d = (λ a. d.0 (among_front x xs ys a), differ_front xs ys d.1)

-- nor in the last
pub differ_back : (xs ys : List (List ℕ)) → Differ (xs ++ ys) → Differ ys
differ_back [] ys d = d
differ_back (x ∷ xs) ys d = differ_back xs ys d.1

-- and none is in both
pub differ_across : (n : List ℕ) (xs ys : List (List ℕ)) → Differ (xs ++ ys) → Among n xs → Among n ys → ⊥
differ_across n [] ys d a b = absurd a
differ_across n (x ∷ xs) ys d (inl e) b = d.0 (among_back x xs ys (subst (λ m. Among m ys) e b))
differ_across n (x ∷ xs) ys d (inr a) b = differ_across n xs ys d.1 a b

-- and back: of both lists, so of the lists together
pub differ_join : (xs ys : List (List ℕ)) → Differ xs → Differ ys → ((n : List ℕ) → Among n xs → Among n ys → ⊥) → Differ (xs ++ ys)
differ_join [] ys d e apart = e
differ_join (x ∷ xs) ys d e apart = (new, differ_join xs ys d.1 e (λ n a b. apart n (inr a) b)) where
  new : Among x (xs ++ ys) → ⊥
  new a = either (among_parts x xs ys a) where
    either : Among x xs ⊎ Among x ys → ⊥
    either (inl b) = d.0 b
    either (inr b) = apart x (inl refl) b

-- what follows where no name repeats an earlier one
abbrev DifferAfter : List (List ℕ) → List (List ℕ) → Type 0
DifferAfter before names = Differ names × ((n : List ℕ) → Among n names → Among n before → ⊥)

-- the answer where the test is known
not_repeated : (b : Bool) (n : List ℕ) (later : Option (List ℕ)) → (cond b (Some n) later) ≡ None → (b ≡ false) × (later ≡ None)
not_repeated true n later e = cc
not_repeated false n later e = (refl, e)

-- no name repeats one of `before` or an earlier one
differ_after : (before names : List (List ℕ)) → first_repeat_after before names ≡ None → DifferAfter before names
differ_after before [] e = (tt, λ n a b. a)
differ_after before (n ∷ ns) e =
    let split = not_repeated (is_among before n) n (first_repeat_after (n ∷ before) ns) e in
    let rest = differ_after (n ∷ before) ns split.1 in
    ((λ a. rest.1 n a (inl refl), rest.0), all split.0 rest.1) where
      all : is_among before n ≡ false → ((m : List ℕ) → Among m ns → Among m (n ∷ before) → ⊥) → (m : List ℕ) → Among m (n ∷ ns) → Among m before → ⊥
      all is apart m (inl s) b = let t = test_of_among before n (subst (λ z. Among z before) s b) in cc
      all is apart m (inr a) b = apart m a (inr b)

-- the search finds none where none repeats
none_repeats_after : (before names : List (List ℕ)) → DifferAfter before names → first_repeat_after before names ≡ None
none_repeats_after before [] d = refl
none_repeats_after before (n ∷ ns) d =
    not_chosen (is_among before n) (Some n) (first_repeat_after (n ∷ before) ns) (λ e. d.1 n (inl refl) (among_by_test before n e))
    ∙ none_repeats_after (n ∷ before) ns (d.0.1, later) where
      later : (m : List ℕ) → Among m ns → Among m (n ∷ before) → ⊥
      later m a (inl e) = d.0.0 (subst (λ z. Among z ns) e a)
      later m a (inr b) = d.1 m (inr a) b

-- Where no first repeat is found, all names differ.
pub none_repeats : (names : List (List ℕ)) → first_repeat names ≡ None → Differ names
none_repeats names e = (differ_after [] names e).0

-- And where all names differ, none is found.
pub differ_has_no_repeat : (names : List (List ℕ)) → Differ names → first_repeat names ≡ None
differ_has_no_repeat names d = none_repeats_after [] names (d, λ n a b. b)
