-- How often a name stands in a list of names, and whether each stands there once.
use Rattle.std.proofs.Common.{◌≡◌, ℕ, zero, suc, ◌+◌, ◌<◌, ◌≤◌, Bool, true, false, ltb, ◌&&◌, ◌⊎◌, inl, inr, List, [], ◌∷◌, ◌++◌, refl, sym, subst, ◌∙◌, arith}
use Rattle.std.specs.Bool.{Decides}
use Rattle.std.specs.List.{list_all}
use Rattle.std.specs.Str.{bytes_eq}
use Rattle.std.proofs.lemmas.Bool.{ltb-true, lt-ltb, cases_lt}
use Rattle.cg_svspec.specs.Names.{Among, Differ}
use Rattle.cg_svspec.proofs.NamesLemmas.{name_is_itself, same_name}
use Rattle.cg_svspec.proofs.Runs.{both_pass}
use Rattle.cg_svcheck.specs.Counting.{one_if}

-- how often the name stands there
abbrev pub count : List ℕ → List (List ℕ) → ℕ
count n [] = 0
count n (m ∷ ms) = one_if (bytes_eq m n) + count n ms

-- the counts in two lists add up
pub count_both : (n : List ℕ) (xs ys : List (List ℕ)) → count n (xs ++ ys) ≡ count n xs + count n ys
count_both n [] ys = omega arith
count_both n (x ∷ xs) ys = omega (arith, count_both n xs ys)

-- a name stands for itself
itself : (m n : List ℕ) → m ≡ n → one_if (bytes_eq m n) ≡ 1
itself m n e = rw (e, name_is_itself n) refl

-- a name stands where it is a member
pub among_counts : (n : List ℕ) (ms : List (List ℕ)) → Among n ms → 0 < count n ms
among_counts n [] a = absurd a
among_counts n (m ∷ ms) (inl e) = omega (arith, itself m n (sym e))
among_counts n (m ∷ ms) (inr a) = omega (arith, among_counts n ms a)

-- and a member is what stands there
pub counts_among : (n : List ℕ) (ms : List (List ℕ)) → 0 < count n ms → Among n ms
counts_among n [] h = absurd (omega arith)
counts_among n (m ∷ ms) h = by (counts_among n ms) (bytes_eq m n) refl h where
  by : (0 < count n ms → Among n ms) → (b : Bool) → bytes_eq m n ≡ b → 0 < one_if b + count n ms → Among n (m ∷ ms)
  by later true is h = inl (sym (same_name m n is))
  by later false is h = inr (later (omega arith))

-- what is no member stands nowhere
none_counted : (n : List ℕ) (ms : List (List ℕ)) → (Among n ms → ⊥) → count n ms ≡ 0
none_counted n ms free = by (count n ms) refl where
  by : (k : ℕ) → count n ms ≡ k → k ≡ 0
  by zero is = refl
  by (suc k) is = absurd (free (counts_among n ms (omega arith)))

-- a name that stands in no list twice
differ_counts : (n : List ℕ) (ms : List (List ℕ)) → Differ ms → count n ms ≤ 1
differ_counts n [] d = omega arith
differ_counts n (m ∷ ms) d = by (differ_counts n ms d.1) (bytes_eq m n) refl where
  by : count n ms ≤ 1 → (b : Bool) → bytes_eq m n ≡ b → one_if b + count n ms ≤ 1
  by later true is =
      let same : m ≡ n = same_name m n is in
      omega (arith, none_counted n ms (subst (λ z. Among z ms → ⊥) same d.0))
  by later false is = omega (arith, later)

-- and back: where each name stands at most once, no name stands twice
counts_differ : (ms : List (List ℕ)) → ((n : List ℕ) → count n ms ≤ 1) → Differ ms
counts_differ [] once = tt
counts_differ (m ∷ ms) once = (new, counts_differ ms (λ n. omega (arith, once n))) where
  new : Among m ms → ⊥
  new a = absurd (omega (arith, itself m m refl, once m, among_counts m ms a))

-- what all pass, each member passes
pub member_passes : (p : List ℕ → Bool) (ns : List (List ℕ)) (n : List ℕ) → list_all p ns ≡ true → Among n ns → p n ≡ true
member_passes p [] n e a = absurd a
member_passes p (m ∷ ms) n e (inl is) = subst (λ z. p z ≡ true) (sym is) (both_pass (p m) (list_all p ms) e).0
member_passes p (m ∷ ms) n e (inr a) = member_passes p ms n (both_pass (p m) (list_all p ms) e).1 a

-- and what each name passes, all do
all_pass : (p : List ℕ → Bool) (ns : List (List ℕ)) → ((n : List ℕ) → p n ≡ true) → list_all p ns ≡ true
all_pass p [] each = refl
all_pass p (m ∷ ms) each = rw (each m) (all_pass p ms each)

-- both lists pass where they do together
pub all_both : (p : List ℕ → Bool) (xs ys : List (List ℕ)) → list_all p (xs ++ ys) ≡ (list_all p xs && list_all p ys)
all_both p [] ys = refl
all_both p (x ∷ xs) ys = by (p x) (all_both p xs ys) where
  by : (b : Bool) → list_all p (xs ++ ys) ≡ (list_all p xs && list_all p ys) → (b && list_all p (xs ++ ys)) ≡ ((b && list_all p xs) && list_all p ys)
  by true e = e
  by false e = refl

-- Where each member stands at most once, no name stands twice.
pub once_decides : (p : List ℕ → Bool) (ns : List (List ℕ)) → ((n : List ℕ) → p n ≡ ltb (count n ns) 2) → Decides (list_all p ns) (Differ ns)
once_decides p ns is = (λ e. counts_differ ns (few e), λ d. all_pass p ns (λ n. is n ∙ lt-ltb (count n ns) 2 (omega (arith, differ_counts n ns d)))) where
  few : list_all p ns ≡ true → (n : List ℕ) → count n ns ≤ 1
  few e n = by (cases_lt (count n ns) 1) where
    by : (count n ns < 1) ⊎ (1 ≤ count n ns) → count n ns ≤ 1
    by (inl less) = omega (arith, less)
    by (inr more) = omega (arith, ltb-true (count n ns) 2 (sym (is n) ∙ member_passes p ns n e (counts_among n ns (omega (arith, more)))))

-- A name stands among others where it is counted.
pub counted_decides : (n : List ℕ) (ns : List (List ℕ)) → Decides (ltb 0 (count n ns)) (Among n ns)
counted_decides n ns = (λ e. counts_among n ns (ltb-true 0 (count n ns) e), λ a. lt-ltb 0 (count n ns) (among_counts n ns a))
