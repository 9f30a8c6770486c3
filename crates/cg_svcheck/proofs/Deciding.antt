-- Tests that decide facts, put together.
use Rattle.std.proofs.Common.{◌≡◌, ℕ, ◌<◌, ◌≤◌, Bool, true, false, not, ◌&&◌, ◌||◌, eqb, leb, ltb, ◌⊎◌, inl, inr, List, [], ◌∷◌, refl}
use Rattle.std.specs.Bool.{Decides}
use Rattle.std.specs.List.{list_all}
use Rattle.std.specs.Str.{bytes_eq}
use Rattle.std.proofs.lemmas.Bool.{ltb-true, leb-true, eqb-true, lt-ltb, le-leb, eq-eqb}
use Rattle.cg_svspec.specs.Printable.{AllOf}
use Rattle.cg_svspec.specs.Names.{is_among, Among}
use Rattle.cg_svspec.proofs.NamesLemmas.{among_by_test, test_of_among, same_name, name_is_itself}

-- a test that always passes
pub decides_true : {P : Type 0} → P → Decides true P
decides_true p = (λ e. p, λ q. refl)

-- one that never does
pub decides_false : {P : Type 0} → (P → ⊥) → Decides false P
decides_false no_such = (λ e. cc, λ p. absurd (no_such p))

-- a test of one fact is a test of another that follows from it and from which it follows
pub decides_as : {P Q : Type 0} {a : Bool} → Decides a P → (P → Q) → (Q → P) → Decides a Q
decides_as d up down = (λ e. up (d.0 e), λ q. d.1 (down q))

-- two tests
pub decides_both : {P Q : Type 0} {a b : Bool} → Decides a P → Decides b Q → Decides (a && b) (P × Q)
decides_both {a = true} {b} d e = (λ h. (d.0 refl, e.0 h), λ pq. e.1 pq.1)
decides_both {a = false} {b} d e = (λ h. cc, λ pq. d.1 pq.0)

-- three
pub decides_three : {P Q R : Type 0} {a b c : Bool} → Decides a P → Decides b Q → Decides c R → Decides (a && (b && c)) (P × Q × R)
decides_three d e f = decides_as (decides_both d (decides_both e f)) (λ h. (h.0, h.1.0, h.1.1)) (λ h. (h.0, (h.1, h.2)))

-- five
pub decides_five : {P Q R S T : Type 0} {a b c d e : Bool} → Decides a P → Decides b Q → Decides c R → Decides d S → Decides e T
    → Decides (a && (b && (c && (d && e)))) (P × Q × R × S × T)
decides_five f g h i j =
    decides_as (decides_both f (decides_both g (decides_both h (decides_both i j))))
    (λ k. (k.0, k.1.0, k.1.1.0, k.1.1.1.0, k.1.1.1.1))
    (λ k. (k.0, (k.1, (k.2, (k.3, k.4)))))

-- one of two
pub decides_either : {P Q : Type 0} {a b : Bool} → Decides a P → Decides b Q → Decides (a || b) (P ⊎ Q)
decides_either {P} {Q} {a = true} {b} d e = (λ h. inl (d.0 refl), λ pq. refl)
decides_either {P} {Q} {a = false} {b} d e = (λ h. inr (e.0 h), back) where
  back : P ⊎ Q → b ≡ true
  back (inl p) = let h = d.1 p in cc
  back (inr q) = e.1 q

-- the opposite
pub decides_not : {P : Type 0} {a : Bool} → Decides a P → Decides (not a) (P → ⊥)
decides_not {P} {a = true} d = (λ h. cc, λ never. absurd (never (d.0 refl)))
decides_not {P} {a = false} d = ((λ h p. let e = d.1 p in cc), λ never. refl)

-- each member of a list
pub decides_all : {A : Type 0} (p : A → Bool) (P : A → Type 0) → ((x : A) → Decides (p x) (P x)) → (xs : List A) → Decides (list_all p xs) (AllOf P xs)
decides_all p P each [] = decides_true tt
decides_all p P each (x ∷ xs) = decides_both (each x) (decides_all p P each xs)

-- numbers
pub decides_lt : (m n : ℕ) → Decides (ltb m n) (m < n)
decides_lt m n = (ltb-true m n, lt-ltb m n)

pub decides_le : (m n : ℕ) → Decides (leb m n) (m ≤ n)
decides_le m n = (leb-true m n, le-leb m n)

pub decides_eq : (m n : ℕ) → Decides (eqb m n) (m ≡ n)
decides_eq m n = (eqb-true m n, eq-eqb m n)

-- names
pub decides_same : (m n : List ℕ) → Decides (bytes_eq m n) (m ≡ n)
decides_same m n = (same_name m n, same) where
  same : m ≡ n → bytes_eq m n ≡ true
  same e = rw (e, name_is_itself n) refl

pub decides_among : (ms : List (List ℕ)) (n : List ℕ) → Decides (is_among ms n) (Among n ms)
decides_among ms n = (among_by_test ms n, test_of_among ms n)
