-- The list of a crossbar's clocks has exactly its clocks, in the order of first use.
use Rattle.std.proofs.Common.{◌≡◌, ◌≢◌, ℕ, zero, suc, ◌≤◌, Bool, true, false, ◌||◌, cond, List, [], ◌∷◌, ◌++◌, Some, inl, inr, refl, sym, ap, ◌∙◌, arith}
use Rattle.std.specs.Prelude.{slice_get}
use Rattle.std.specs.Str.{bytes_eq}
use Rattle.std.proofs.lemmas.Bool.{false≢true, or_cases, or_left, or_right}
use Rattle.std.proofs.lemmas.List.{append_assoc, append-nil}
use Rattle.std.proofs.lemmas.Slice.Eq.{bytes_eq-Decides}
use Rattle.cg_svspec.specs.Names.{Among, is_among}
use Rattle.cg_svspec.specs.Printable.{AllOf}
use Rattle.cg_desc.specs.declared.crossbar.XbarDesc.{XbarDesc}
use Rattle.cg_nodes.specs.Clocks.{IsClocks, IsUsedBefore, clock_uses}
use Rattle.cg_nodes.specs.Listed.{clocks_of, new_names}
use Rattle.cg_nodes.specs.Order.{Rises}
use Rattle.cg_nodes.proofs.Order.{among_all, one_rising}

-- ---- names that are new

known_among : (ms : List (List ℕ)) (n : List ℕ) → is_among ms n ≡ true → Among n ms
known_among [] n known = cc
known_among (m ∷ ms) n known = elim (or_cases (bytes_eq m n) (is_among ms n) known) [
  | inl here ↦ inl (sym ((bytes_eq-Decides m n).0 here))
  | inr there ↦ inr (known_among ms n there)
]

among_known : (ms : List (List ℕ)) (n : List ℕ) → Among n ms → is_among ms n ≡ true
among_known [] n among = absurd among
among_known (m ∷ ms) n (inl is) = or_left (bytes_eq m n) (is_among ms n) ((bytes_eq-Decides m n).1 (sym is))
among_known (m ∷ ms) n (inr among) = or_right (bytes_eq m n) (is_among ms n) (among_known ms n among)

both_false : (a b : Bool) → (a || b) ≡ false → (a ≡ false) × (b ≡ false)
both_false true b h = cc
both_false false b h = (refl, h)

-- a new name stands in the list, and not before it
pub in_new : (before ns : List (List ℕ)) (n : List ℕ) → Among n (new_names before ns) → Among n ns × (is_among before n ≡ false)
unfolding new_names
in_new before [] n among = absurd among
in_new before (m ∷ ms) n among = by (λ b h. in_new b ms n h) (is_among before m) refl among
  where
    by : ((b : List (List ℕ)) → Among n (new_names b ms) → Among n ms × (is_among b n ≡ false)) → (b : Bool) → is_among before m ≡ b
        → Among n (cond b (new_names before ms) (m ∷ new_names (m ∷ before) ms)) → Among n (m ∷ ms) × (is_among before n ≡ false)
    by rest true is h = let r = rest before h in (inr r.0, r.1)
    by rest false is (inl same) = (inl same, ap (is_among before) same ∙ is)
    by rest false is (inr h) = let r = rest (m ∷ before) h in (inr r.0, (both_false (bytes_eq m n) (is_among before n) r.1).1)

pub new_has : (before ns : List (List ℕ)) (n : List ℕ) → Among n ns → is_among before n ≡ false → Among n (new_names before ns)
unfolding new_names
new_has before [] n among new = absurd among
new_has before (m ∷ ms) n among new = by (λ b h k. new_has b ms n h k) (is_among before m) refl (bytes_eq m n) refl among
  where
    or_of : (a b : Bool) → a ≡ false → b ≡ false → (a || b) ≡ false
    or_of a b x y = rw (x, y) refl

    by : ((b : List (List ℕ)) → Among n ms → is_among b n ≡ false → Among n (new_names b ms)) → (b : Bool) → is_among before m ≡ b → (same : Bool) → bytes_eq m n ≡ same
        → Among n (m ∷ ms) → Among n (cond b (new_names before ms) (m ∷ new_names (m ∷ before) ms))
    by rest true is same e (inl here) = absurd (false≢true (sym new ∙ ap (is_among before) here ∙ is))
    by rest true is same e (inr there) = rest before there new
    by rest false is true e h = inl (sym ((bytes_eq-Decides m n).0 e))
    by rest false is false e (inl here) = absurd (false≢true (sym e ∙ (bytes_eq-Decides m n).1 (sym here)))
    by rest false is false e (inr there) = inr (rest (m ∷ before) there (or_of (bytes_eq m n) (is_among before n) e new))

-- ---- by first use

-- one name stands at a place up to which the other does not
abbrev pub Before : List (List ℕ) → List ℕ → List ℕ → Type 0
Before uses a b = (i : ℕ) × (slice_get uses i ≡ Some a) × ((j : ℕ) → j ≤ i → slice_get uses j ≢ Some b)

all_map : {X : Type 0} (P Q : X → Type 0) (xs : List X) → ((x : X) → Among x xs → P x → Q x) → AllOf P xs → AllOf Q xs
all_map P Q [] each all = tt
all_map P Q (x ∷ xs) each all = (each x (inl refl) all.0, all_map P Q xs (λ y among. each y (inr among)) all.1)

rises_map : {X : Type 0} (R S : X → X → Type 0) (xs : List X) → ((x y : X) → Among x xs → Among y xs → R x y → S x y) → Rises R xs → Rises S xs
rises_map R S [] each up = tt
rises_map R S (x ∷ xs) each up =
    (all_map (R x) (S x) xs (λ y among. each x y (inl refl) (inr among)) up.0, rises_map R S xs (λ a b in_a in_b. each a b (inr in_a) (inr in_b)) up.1)

-- with one more use in front, of another name than the later one
one_in_front : (m : List ℕ) (ms : List (List ℕ)) (a b : List ℕ) → m ≢ b → Before ms a b → Before (m ∷ ms) a b
one_in_front m ms a b other (i, at, none) = (suc i, at, λ j le. by j le)
  where
    by : (j : ℕ) → j ≤ suc i → slice_get (m ∷ ms) j ≢ Some b
    by zero le is = let same : m ≡ b = cc in other same
    by (suc j) le is = none j (omega arith) is

pub new_rise : (before ns : List (List ℕ)) → Rises (Before ns) (new_names before ns)
unfolding new_names
new_rise before [] = tt
new_rise before (m ∷ ms) = by (λ b. new_rise b ms) (is_among before m) refl
  where
    other_name : (b : List (List ℕ)) (n : List ℕ) → is_among b m ≡ true → is_among b n ≡ false → m ≢ n
    other_name b n known new same = false≢true (sym new ∙ ap (is_among b) (sym same) ∙ known)

    in_front : (b : List (List ℕ)) → is_among b m ≡ true → Rises (Before ms) (new_names b ms) → Rises (Before (m ∷ ms)) (new_names b ms)
    in_front b known up =
        rises_map (Before ms) (Before (m ∷ ms)) (new_names b ms)
        (λ x y in_x in_y r. one_in_front m ms x y (other_name b y known (in_new b ms y in_y).1) r) up

    itself : is_among (m ∷ before) m ≡ true
    itself = or_left (bytes_eq m m) (is_among before m) ((bytes_eq-Decides m m).1 refl)

    at_first : (n : List ℕ) → Among n (new_names (m ∷ before) ms) → Before (m ∷ ms) m n
    at_first n among = (0, refl, λ j le. none j le)
      where
        none : (j : ℕ) → j ≤ 0 → slice_get (m ∷ ms) j ≢ Some n
        none zero le is = let same : m ≡ n = cc in other_name (m ∷ before) n itself (in_new (m ∷ before) ms n among).1 same
        none (suc j) le is = absurd (omega arith)

    by : ((b : List (List ℕ)) → Rises (Before ms) (new_names b ms)) → (b : Bool) → is_among before m ≡ b
        → Rises (Before (m ∷ ms)) (cond b (new_names before ms) (m ∷ new_names (m ∷ before) ms))
    by rest true known = in_front before known (rest before)
    by rest false fresh = (
      among_all (Before (m ∷ ms) m) (new_names (m ∷ before) ms) (λ n among. at_first n among),
      in_front (m ∷ before) itself (rest (m ∷ before)),
    )

-- no two names stand before each other
pub once : (uses : List (List ℕ)) (a b : List ℕ) → Before uses a b → Before uses b a → ⊥
once uses a b (i, at_i, no_b) (j, at_j, no_a) = no_b j (late i j (λ le. no_a i le at_i)) at_j
  where
    late : (i j : ℕ) → (i ≤ j → ⊥) → j ≤ i
    late i j h = omega (arith, h)

-- ---- the laws

in_clocks : (x : XbarDesc) (c : List ℕ) → Among c (clocks_of x) → Among c (clock_uses x)
unfolding clocks_of
in_clocks x c among = (in_new [] (clock_uses x) c among).0

clocks_have : (x : XbarDesc) (c : List ℕ) → Among c (clock_uses x) → Among c (clocks_of x)
unfolding clocks_of
clocks_have x c among = new_has [] (clock_uses x) c among refl

clocks_rise : (x : XbarDesc) → Rises (IsUsedBefore x) (clocks_of x)
unfolding clocks_of
clocks_rise x = new_rise [] (clock_uses x)

pub clocks_listed : (x : XbarDesc) → IsClocks x (clocks_of x)
clocks_listed x = record { members = λ c. (in_clocks x c, clocks_have x c); in_order = clocks_rise x }

pub clocks_one : (x : XbarDesc) (clocks : List (List ℕ)) → IsClocks x clocks → clocks ≡ clocks_of x
clocks_one x clocks is =
    one_rising (IsUsedBefore x) (once (clock_uses x)) clocks (clocks_of x) is.in_order (clocks_rise x)
    (λ c among. clocks_have x c ((is.members c).0 among)) (λ c among. (is.members c).1 (in_clocks x c among))

-- ---- one more use, by a set that keeps its order

-- only which names stand before counts
same_new : (a b ns : List (List ℕ)) → ((n : List ℕ) → is_among a n ≡ is_among b n) → new_names a ns ≡ new_names b ns
unfolding new_names
same_new a b [] same = refl
same_new a b (m ∷ ms) same =
    λ i. cond (same m i) (same_new a b ms same i) (m ∷ same_new (m ∷ a) (m ∷ b) ms (λ n. ap (λ t. bytes_eq m n || t) (same n)) i)

pub one_more_use : (keys new : List (List ℕ)) (n : List ℕ) (rest : List (List ℕ)) → new ≡ cond (is_among keys n) keys (keys ++ n ∷ [])
    → new ++ new_names new rest ≡ keys ++ new_names keys (n ∷ rest)
unfolding new_names
one_more_use keys new n rest is = ap (λ l. l ++ new_names l rest) is ∙ by (is_among keys n)
  where
    swapped : (keys : List (List ℕ)) (m : List ℕ) → is_among (keys ++ n ∷ []) m ≡ is_among (n ∷ keys) m
    swapped [] m = refl
    swapped (k ∷ ks) m = ap (λ b. bytes_eq k m || b) (swapped ks m) ∙ turned (bytes_eq k m) (bytes_eq n m) (is_among ks m)
      where
        turned : (a b c : Bool) → (a || (b || c)) ≡ (b || (a || c))
        turned true true c = refl
        turned true false c = refl
        turned false b c = refl

    by : (b : Bool) → cond b keys (keys ++ n ∷ []) ++ new_names (cond b keys (keys ++ n ∷ [])) rest ≡ keys ++ cond b (new_names keys rest) (n ∷ new_names (n ∷ keys) rest)
    by true = refl
    by false =
        append_assoc keys (n ∷ []) (new_names (keys ++ n ∷ []) rest)
        ∙ ap (λ l. keys ++ (n ∷ l)) (same_new (keys ++ n ∷ []) (n ∷ keys) rest (swapped keys))

pub no_use : (keys : List (List ℕ)) → keys ++ new_names keys [] ≡ keys
unfolding new_names
no_use keys = append-nil keys
