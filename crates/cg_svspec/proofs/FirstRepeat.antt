-- The first repeat that the search finds is the name at the least place whose name stands at an earlier place.
use Rattle.std.proofs.Common.{◌≡◌, ℕ, zero, suc, ◌<◌, ◌≤◌, Bool, true, false, cond, ◌⊎◌, inl, inr, Option, Some, None, List, [], ◌∷◌, slice_get, refl, sym, ap, subst, arith}
use Rattle.std.proofs.lemmas.Bool.{cases_lt}
use Rattle.cg_svspec.specs.Names.{is_among, first_repeat, first_repeat_after, Among, Repeats, IsFirstRepeat, FirstRepeatIsFirst}
use Rattle.cg_svspec.proofs.NamesLemmas.{among_by_test, test_of_among, none_repeats, differ_has_no_repeat}

-- ---- behind names that stand before

-- the name at place k is one of those before, or stands at an earlier place
record RepeatsAfter (before names : List (List ℕ)) (k : ℕ) : Type 0 where
  name : List ℕ
  is : slice_get names k ≡ Some name
  again : Among name before ⊎ ((j : ℕ) × (j < k) × (slice_get names j ≡ Some name))

-- the least place of which this is so
record FirstAfter (before names : List (List ℕ)) (n : List ℕ) : Type 0 where
  place : ℕ
  is : slice_get names place ≡ Some n
  again : Among n before ⊎ ((j : ℕ) × (j < place) × (slice_get names j ≡ Some n))
  none_before : (k : ℕ) → k < place → RepeatsAfter before names k → ⊥

-- the first name is not one of those before: so it repeats nothing
not_first : (before : List (List ℕ)) (x : List ℕ) (xs : List (List ℕ)) → is_among before x ≡ false → RepeatsAfter before (x ∷ xs) zero → ⊥
not_first before x xs new r = by r.again where
  same : x ≡ r.name
  same = let e = r.is in cc

  by : Among r.name before ⊎ ((j : ℕ) × (j < 0) × (slice_get (x ∷ xs) j ≡ Some r.name)) → ⊥
  by (inl a) = let found = test_of_among before x (subst (λ n. Among n before) (sym same) a) in cc
  by (inr earlier) = absurd (omega (arith, earlier.1))

-- a later repeat is one behind the first name
repeat_behind : (before : List (List ℕ)) (x : List ℕ) (xs : List (List ℕ)) (k : ℕ) → RepeatsAfter before (x ∷ xs) (suc k) → RepeatsAfter (x ∷ before) xs k
repeat_behind before x xs k r = record { name = r.name; is = r.is; again = by r.again } where
  at : (j : ℕ) → j < suc k → slice_get (x ∷ xs) j ≡ Some r.name → Among r.name (x ∷ before) ⊎ ((i : ℕ) × (i < k) × (slice_get xs i ≡ Some r.name))
  at zero less e = let same : r.name ≡ x = cc in inl (inl same)
  at (suc j) less e = inr (j, omega arith, e)

  by : Among r.name before ⊎ ((j : ℕ) × (j < suc k) × (slice_get (x ∷ xs) j ≡ Some r.name)) → Among r.name (x ∷ before) ⊎ ((i : ℕ) × (i < k) × (slice_get xs i ≡ Some r.name))
  by (inl a) = inl (inr a)
  by (inr earlier) = at earlier.0 earlier.1 earlier.2

-- and back
again_ahead : (before : List (List ℕ)) (x n : List ℕ) (xs : List (List ℕ)) (k : ℕ) → Among n (x ∷ before) ⊎ ((i : ℕ) × (i < k) × (slice_get xs i ≡ Some n))
    → Among n before ⊎ ((j : ℕ) × (j < suc k) × (slice_get (x ∷ xs) j ≡ Some n))
again_ahead before x n xs k (inl (inl e)) = inr (0, omega arith, ap Some (sym e))
again_ahead before x n xs k (inl (inr a)) = inl a
again_ahead before x n xs k (inr earlier) = inr (suc earlier.0, omega (arith, earlier.1), earlier.2)

-- what is found behind the first name is found
found_ahead : (before : List (List ℕ)) (x n : List ℕ) (xs : List (List ℕ)) → is_among before x ≡ false → FirstAfter (x ∷ before) xs n → FirstAfter before (x ∷ xs) n
found_ahead before x n xs new f = record {
  place = suc f.place;
  is = f.is;
  again = again_ahead before x n xs f.place f.again;
  none_before = none;
} where
  none : (k : ℕ) → k < suc f.place → RepeatsAfter before (x ∷ xs) k → ⊥
  none zero less r = not_first before x xs new r
  none (suc k) less r = f.none_before k (omega arith) (repeat_behind before x xs k r)

-- the search finds the first
found_after : (before names : List (List ℕ)) (n : List ℕ) → first_repeat_after before names ≡ Some n → FirstAfter before names n
found_after before [] n e = cc
found_after before (x ∷ xs) n e = by (found_after (x ∷ before) xs n) (is_among before x) refl e where
  by : (first_repeat_after (x ∷ before) xs ≡ Some n → FirstAfter (x ∷ before) xs n) → (b : Bool) → is_among before x ≡ b → cond b (Some x) (first_repeat_after (x ∷ before) xs) ≡ Some n
      → FirstAfter before (x ∷ xs) n
  by later true known e =
      let same : x ≡ n = cc in
      record { place = 0; is = e; again = inl (subst (λ m. Among m before) same (among_by_test before x known)); none_before = λ k less r. absurd (omega arith) }
  by later false new e = found_ahead before x n xs new (later e)

-- and where it finds none, there is none
none_after : (before names : List (List ℕ)) → first_repeat_after before names ≡ None → (k : ℕ) → RepeatsAfter before names k → ⊥
none_after before [] e k r = let is = r.is in cc
none_after before (x ∷ xs) e k r = by (none_after (x ∷ before) xs) (is_among before x) refl e k r where
  by : (first_repeat_after (x ∷ before) xs ≡ None → (k : ℕ) → RepeatsAfter (x ∷ before) xs k → ⊥) → (b : Bool) → is_among before x ≡ b
      → cond b (Some x) (first_repeat_after (x ∷ before) xs) ≡ None → (k : ℕ) → RepeatsAfter before (x ∷ xs) k → ⊥
  by later true known e k r = cc
  by later false new e zero r = not_first before x xs new r
  by later false new e (suc k) r = later e k (repeat_behind before x xs k r)

-- ---- with none before

-- a place that repeats an earlier one
plainly : (names : List (List ℕ)) (k : ℕ) → Repeats names k → RepeatsAfter [] names k
plainly names k r = record { name = r.name; is = r.is; again = inr (r.earlier, r.below, r.same) }

-- and back
earlier_of : (n : List ℕ) (names : List (List ℕ)) (k : ℕ) → Among n [] ⊎ ((j : ℕ) × (j < k) × (slice_get names j ≡ Some n)) → slice_get names k ≡ Some n → Repeats names k
earlier_of n names k (inl a) is = absurd a
earlier_of n names k (inr earlier) is = record { name = n; is = is; earlier = earlier.0; below = earlier.1; same = earlier.2 }

-- the search finds the first repeat
first_is : (names : List (List ℕ)) (n : List ℕ) → first_repeat names ≡ Some n → IsFirstRepeat names n
first_is names n e =
    let f = found_after [] names n e in
    record { place = f.place; is = f.is; repeats = earlier_of n names f.place f.again f.is; first = λ k less r. f.none_before k less (plainly names k r) }

-- two first repeats are one
one_first : (names : List (List ℕ)) (m n : List ℕ) → IsFirstRepeat names m → IsFirstRepeat names n → m ≡ n
one_first names m n a b = by (cases_lt a.place b.place) (cases_lt b.place a.place) where
  by : (a.place < b.place) ⊎ (b.place ≤ a.place) → (b.place < a.place) ⊎ (a.place ≤ b.place) → m ≡ n
  by (inl less) other = absurd (b.first a.place less a.repeats)
  by (inr more) (inl less) = absurd (a.first b.place less b.repeats)
  by (inr more) (inr less) = let same : a.place ≡ b.place = omega arith in let p = a.is in let q = b.is in cc

-- what is the first repeat is found
is_found : (names : List (List ℕ)) (n : List ℕ) → IsFirstRepeat names n → first_repeat names ≡ Some n
is_found names n f = by (first_repeat names) refl where
  by : (o : Option (List ℕ)) → first_repeat names ≡ o → o ≡ Some n
  by None e = absurd (none_after [] names e f.place (plainly names f.place f.repeats))
  by (Some m) e = ap Some (one_first names m n (first_is names m e) f)

-- The search finds just the first repeat, and none just where all names differ.
pub first_repeat_is_first : FirstRepeatIsFirst
first_repeat_is_first names = record {
  some = λ n. (first_is names n, is_found names n);
  none = (none_repeats names, differ_has_no_repeat names);
}
