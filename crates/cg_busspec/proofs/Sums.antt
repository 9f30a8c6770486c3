-- Sums over hosts and devices: each pair is counted once, from either side.
use Rattle.std.proofs.Common.{◌≡◌, ℕ, zero, suc, ◌+◌, ◌≤◌, ◌<◌, eqb, Bool, true, false, not, cond, arith, ◌||◌, inl, inr, List, [], ◌∷◌, length, refl, ap, sym, subst, ◌∙◌}
use Rattle.std.specs.Prelude.{filter}
use Rattle.std.proofs.lemmas.Bool.Decides.{nat_tests}
use Rattle.std.proofs.lemmas.Bool.{eqb-true}
use Rattle.cg_svspec.specs.Names.{Among}
use Rattle.cg_desc.specs.declared.crossbar.NodeDesc.{NodeDesc}
use Rattle.cg_busspec.specs.Crossbar.{is_in, Crossbar, numbers_of, hosts, devices, reach}
use Rattle.cg_busspec.proofs.Good.{Once, IsCrossbar}
use Rattle.cg_busspec.proofs.Places.{in_by_test}

-- a sum over numbers
abbrev pub total : (ℕ → ℕ) → List ℕ → ℕ
total f [] = 0
total f (i ∷ is) = f i + total f is

-- a number where the test holds
abbrev pub count_if : Bool → ℕ → ℕ
count_if b n = cond b n 0

-- equal numbers have equal sums
pub total_same : (f g : ℕ → ℕ) (is : List ℕ) → ((i : ℕ) → Among i is → f i ≡ g i) → total f is ≡ total g is
total_same f g [] e = refl
total_same f g (i ∷ is) e = rw (e i (inl refl), total_same f g is (λ j h. e j (inr h))) refl

-- a sum of sums
pub total_sum : (f g : ℕ → ℕ) (is : List ℕ) → total (λ i. f i + g i) is ≡ total f is + total g is
total_sum f g [] = omega arith
total_sum f g (i ∷ is) = omega (arith, total_sum f g is)

-- a sum of zeros
total_zero : (is : List ℕ) → total (λ i. 0) is ≡ 0
total_zero [] = refl
total_zero (i ∷ is) = omega (arith, total_zero is)

-- a sum over numbers that pass a test
pub total_filter : (p : ℕ → Bool) (f : ℕ → ℕ) (is : List ℕ) → total f (filter p is) ≡ total (λ i. count_if (p i) (f i)) is
total_filter p f [] = refl
total_filter p f (i ∷ is) = by (p i) (total_filter p f is) where
  by : (b : Bool) → total f (filter p is) ≡ total (λ i. count_if (p i) (f i)) is
      → total f (cond b (i ∷ filter p is) (filter p is)) ≡ count_if b (f i) + total (λ i. count_if (p i) (f i)) is
  by true later = ap (λ z. f i + z) later
  by false later = omega (arith, later)

-- the sums may be taken in either order
pub total_swap : (f : ℕ → ℕ → ℕ) (is js : List ℕ) → total (λ i. total (f i) js) is ≡ total (λ j. total (λ i. f i j) is) js
total_swap f [] js = sym (total_zero js)
total_swap f (i ∷ is) js = rw (total_swap f is js) (sym (total_sum (f i) (λ j. total (λ i. f i j) is) js))

-- one number's part of a sum
only_one : (f : ℕ → ℕ) (j : ℕ) (is : List ℕ) → Once is → Among j is → total (λ i. count_if (eqb j i) (f i)) is ≡ f j
only_one f j [] o h = absurd h
only_one f j (i ∷ is) o h = by (λ m. only_one f j is o.1 m) (eqb j i) refl h where
  none : (is : List ℕ) → (Among j is → ⊥) → total (λ i. count_if (eqb j i) (f i)) is ≡ 0
  none [] n = refl
  none (k ∷ ks) n = here (eqb j k) refl (none ks (λ m. n (inr m))) where
    here : (b : Bool) → eqb j k ≡ b → total (λ i. count_if (eqb j i) (f i)) ks ≡ 0 → count_if b (f k) + total (λ i. count_if (eqb j i) (f i)) ks ≡ 0
    here true e z = absurd (n (inl (eqb-true j k e)))
    here false e z = omega (arith, z)

  by : (Among j is → total (λ i. count_if (eqb j i) (f i)) is ≡ f j) → (b : Bool) → eqb j i ≡ b → Among j (i ∷ is) → count_if b (f i) + total (λ i. count_if (eqb j i) (f i)) is ≡ f j
  by later true e h =
      let same : j ≡ i = eqb-true j i e in
      let rest : total (λ i. count_if (eqb j i) (f i)) is ≡ 0 = none is (λ m. o.0 (subst (λ z. Among z is) same m)) in
      let value : f j ≡ f i = ap f same in
      omega (arith, rest, value)
  by later false e (inl same) = absurd (itself j (subst (λ z. eqb j z ≡ false) (sym same) e)) where
    itself : (n : ℕ) → eqb n n ≡ false → ⊥
    itself n u = grind arith
  by later false e (inr m) = let rest = later m in omega (arith, rest)

-- a sum over some of the numbers, as one over all
pub total_some : (f : ℕ → ℕ) (js is : List ℕ) → Once js → Once is → ((j : ℕ) → Among j js → Among j is) → total f js ≡ total (λ i. count_if (is_in js i) (f i)) is
total_some f [] is o u all = sym (total_zero is)
total_some f (j ∷ js) is o u all =
    let rest = total_some f js is o.1 u (λ k m. all k (inr m)) in
    let here = only_one f j is u (all j (inl refl)) in
    let split : total (λ i. count_if (is_in (j ∷ js) i) (f i)) is ≡ total (λ i. count_if (eqb j i) (f i)) is + total (λ i. count_if (is_in js i) (f i)) is =
    total_same _ (λ i. count_if (eqb j i) (f i) + count_if (is_in js i) (f i)) is (λ i m. apart i) ∙ total_sum (λ i. count_if (eqb j i) (f i)) (λ i. count_if (is_in js i) (f i)) is in
    rw (rest, split, here) refl where
      apart : (i : ℕ) → count_if (eqb j i || is_in js i) (f i) ≡ count_if (eqb j i) (f i) + count_if (is_in js i) (f i)
      apart i = by (eqb j i) (is_in js i) refl refl where
        by : (b c : Bool) → eqb j i ≡ b → is_in js i ≡ c → count_if (b || c) (f i) ≡ count_if b (f i) + count_if c (f i)
        by true true e m = absurd (o.0 (in_by_test js j (subst (λ z. is_in js z ≡ true) (sym (eqb-true j i e)) m)))
        by true false e m = omega arith
        by false true e m = omega arith
        by false false e m = omega arith

-- Pairs of a host and a device, counted from the hosts or from the devices.
pub total_pairs : (f : ℕ → ℕ → ℕ) (to : ℕ → List ℕ) (hs ds : List ℕ) → Once ds → ((h : ℕ) → Among h hs → Once (to h)) → ((h d : ℕ) → Among h hs → Among d (to h) → Among d ds)
    → total (λ h. total (f h) (to h)) hs ≡ total (λ d. total (λ h. f h d) (filter (λ h. is_in (to h) d) hs)) ds
total_pairs f to hs ds u once all =
    total_same (λ h. total (f h) (to h)) (λ h. total (λ d. count_if (is_in (to h) d) (f h d)) ds) hs (λ h m. total_some (f h) (to h) ds (once h m) u (λ d k. all h d m k))
    ∙ total_swap (λ h d. count_if (is_in (to h) d) (f h d)) hs ds
    ∙ total_same (λ d. total (λ h. count_if (is_in (to h) d) (f h d)) hs) (λ d. total (λ h. f h d) (filter (λ h. is_in (to h) d) hs)) ds (λ d m. sym (total_filter (λ h. is_in (to h) d) (λ h. f h d) hs))

-- nodes have their numbers once
above_start : (b : Bool) (i j : ℕ) (ns : List NodeDesc) → Among j (numbers_of b i ns) → i ≤ j
above_start b i j [] h = absurd h
above_start b i j (n ∷ ns) h = by (above_start b (suc i) j ns) (cond b n.host (not n.host)) h where
  by : (Among j (numbers_of b (suc i) ns) → suc i ≤ j) → (t : Bool) → Among j (cond t (i ∷ numbers_of b (suc i) ns) (numbers_of b (suc i) ns)) → i ≤ j
  by later true (inl e) = omega (arith, e)
  by later true (inr m) = let low = later m in omega (arith, low)
  by later false m = let low = later m in omega (arith, low)

-- each number stands once
pub numbers_once : (b : Bool) (i : ℕ) (ns : List NodeDesc) → Once (numbers_of b i ns)
numbers_once b i [] = tt
numbers_once b i (n ∷ ns) = by (numbers_once b (suc i) ns) (cond b n.host (not n.host)) where
  below : Among i (numbers_of b (suc i) ns) → ⊥
  below m = let low = above_start b (suc i) i ns m in absurd (omega (arith, low))

  by : Once (numbers_of b (suc i) ns) → (t : Bool) → Once (cond t (i ∷ numbers_of b (suc i) ns) (numbers_of b (suc i) ns))
  by later true = (below, later)
  by later false = later

-- ---- a host has at most as many devices as there are

-- a sum of ones is the length
ones : (is : List ℕ) → total (λ i. 1) is ≡ length is
ones [] = refl
ones (i ∷ is) = omega (arith, ones is)

-- a sum of some ones is at most the length
at_most : (js is : List ℕ) → total (λ i. count_if (is_in js i) 1) is ≤ length is
at_most js [] = omega arith
at_most js (i ∷ is) = by (is_in js i) (at_most js is) where
  by : (b : Bool) → total (λ i. count_if (is_in js i) 1) is ≤ length is → count_if b 1 + total (λ i. count_if (is_in js i) 1) is ≤ suc (length is)
  by true h = omega (arith, h)
  by false h = omega (arith, h)

-- A list in which no number stands twice is no longer than one that has all of its numbers, each once.
pub no_longer : (js is : List ℕ) → Once js → Once is → ((j : ℕ) → Among j js → Among j is) → length js ≤ length is
no_longer js is o u all = omega (arith, ones js, total_some (λ i. 1) js is o u all, at_most js is)

-- the numbers below n
upto : ℕ → List ℕ
upto zero = []
upto (suc n) = n ∷ upto n

-- they are below it
upto_below : (n i : ℕ) → Among i (upto n) → i < n
unfolding upto
upto_below zero i a = absurd a
upto_below (suc n) i (inl e) = omega (arith, e)
upto_below (suc n) i (inr a) = omega (arith, upto_below n i a)

-- each once
upto_once : (n : ℕ) → Once (upto n)
unfolding upto
upto_once zero = tt
upto_once (suc n) = (λ a. absurd (omega (arith, upto_below n n a)), upto_once n)

-- and all of them
upto_has : (n i : ℕ) → i < n → Among i (upto n)
unfolding upto
upto_has zero i h = absurd (omega (arith, h))
upto_has (suc n) i h = by (eqb i n) refl (upto_has n i) where
  by : (b : Bool) → eqb i n ≡ b → (i < n → Among i (upto n)) → Among i (n ∷ upto n)
  by true e later = inl (eqb-true i n e)
  by false e later = inr (later (grind (arith, nat_tests)))

-- there are n
upto_long : (n : ℕ) → length (upto n) ≡ n
unfolding upto
upto_long zero = refl
upto_long (suc n) = ap suc (upto_long n)

-- There are at most n different numbers below n.
pub at_most_below : (n : ℕ) (js : List ℕ) → Once js → ((j : ℕ) → Among j js → j < n) → length js ≤ n
at_most_below n js o below = omega (arith, no_longer js (upto n) o (upto_once n) (λ j a. upto_has n j (below j a)), upto_long n)

-- there are no more hosts, or devices, than nodes
numbers_few : (b : Bool) (i : ℕ) (ns : List NodeDesc) → length (numbers_of b i ns) ≤ length ns
numbers_few b i [] = omega arith
numbers_few b i (n ∷ ns) = by (numbers_few b (suc i) ns) (cond b n.host (not n.host)) where
  by : length (numbers_of b (suc i) ns) ≤ length ns → (t : Bool) → length (cond t (i ∷ numbers_of b (suc i) ns) (numbers_of b (suc i) ns)) ≤ suc (length ns)
  by h true = omega (arith, h)
  by h false = omega (arith, h)

-- devices stand once
pub devices_once : (x : Crossbar) → Once (devices x.desc)
unfolding devices
devices_once x = numbers_once false 0 x.desc.nodes

-- they are few
pub devices_few : (x : Crossbar) → length (devices x.desc) ≤ length x.desc.nodes
unfolding devices
devices_few x = numbers_few false 0 x.desc.nodes

-- so are hosts
pub hosts_few : (x : Crossbar) → length (hosts x.desc) ≤ length x.desc.nodes
unfolding hosts
hosts_few x = numbers_few true 0 x.desc.nodes

-- a host has at most 64 devices
pub short : (x : Crossbar) → IsCrossbar x → (h : ℕ) → Among h (hosts x.desc) → length (reach x.desc h) ≤ 64
short x c h i =
    omega (arith, no_longer (reach x.desc h) (devices x.desc) (c.once h i) (devices_once x) (λ d m. c.reaches h d i m), devices_few x, c.few)
