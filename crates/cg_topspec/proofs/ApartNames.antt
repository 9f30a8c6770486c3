-- No name stands twice in the top module and at each instance, where none does in the lists that are tested.
use Rattle.std.proofs.Common.{Bool, List, None, Option, Some, [], ap, arith, cond, false, filter, flat_map, inl, inr, map, refl, slice_get, subst, suc, sym, true, zero, ℕ, ◌++◌, ◌<◌, ◌∙◌, ◌∷◌, ◌≡◌, ◌⊎◌}
use Rattle.std.proofs.lemmas.Bool.{eqb-true}
use Rattle.cg_clkrst.specs.Ports.{ArePorts, TiePort}
use Rattle.cg_clkrst.specs.Ties.{HasSource}
use Rattle.cg_clkrst.specs.declared.tie.Owner.{Owner}
use Rattle.cg_desc.proofs.Numbered.{item_number}
use Rattle.cg_desc.specs.declared.top.MergedTop.{MergedTop}
use Rattle.cg_svspec.proofs.NamesLemmas.{differ_join, none_repeats}
use Rattle.cg_svspec.specs.Names.{Among, Differ, first_repeat}
use Rattle.cg_svspec.specs.Tree.{Connection}
use Rattle.cg_svspec.specs.WellFormed.{connection_names}
use Rattle.cg_topspec.proofs.ListLemmas.{from_counting, from_each, from_map, in_map, in_parts}
use Rattle.cg_topspec.proofs.Nets.{from_those}
use Rattle.cg_topspec.specs.Clashes.{first_clash, or_else}
use Rattle.cg_topspec.specs.Top.{counting}
use Rattle.cg_topspec.specs.TopModule.{is_listed}
use Rattle.cg_clkrst.specs.declared.tie.Owner.TheVariants as owner

-- ---- lists in which no name repeats

no_clash_here : (names : List (List ℕ)) (lists : List (List (List ℕ))) → first_clash (names ∷ lists) ≡ None → (first_repeat names ≡ None) × (first_clash lists ≡ None)
no_clash_here names lists e = by (first_repeat names) refl e where
  by : (o : Option (List ℕ)) → first_repeat names ≡ o → or_else o (first_clash lists) ≡ None → (first_repeat names ≡ None) × (first_clash lists ≡ None)
  by None is found = (is, found)
  by (Some n) is found = absurd (let bad : Some n ≡ None = found in cc)

-- no list has a name twice
pub no_clash : (lists : List (List (List ℕ))) → first_clash lists ≡ None → (names : List (List ℕ)) → Among names lists → Differ names
no_clash [] e names a = absurd a
no_clash (first ∷ lists) e names (inl s) = let h = no_clash_here first lists e in subst Differ (sym s) (none_repeats first h.0)
no_clash (first ∷ lists) e names (inr a) = no_clash lists (no_clash_here first lists e).1 names a

-- ---- lists without repeats

-- no item stands twice
abbrev pub NoneTwice : {A : Type 0} → List A → Type 0
NoneTwice [] = Unit {0}
NoneTwice (x ∷ xs) = (Among x xs → ⊥) × NoneTwice xs

pub twice_map : {A B : Type 0} (f : A → B) (xs : List A) → NoneTwice xs → ((x y : A) → Among x xs → Among y xs → f x ≡ f y → x ≡ y) → NoneTwice (map f xs)
twice_map f [] d tells = tt
twice_map f (x ∷ xs) d tells =
    (λ a. let h = from_map f xs (f x) a in d.0 (subst (λ y. Among y xs) (sym (tells x h.0 (inl refl) (inr h.1) h.2)) h.1), twice_map f xs d.1 (λ y z a b. tells y z (inr a) (inr b)))

pub twice_filter : {A : Type 0} (p : A → Bool) (xs : List A) → NoneTwice xs → NoneTwice (filter p xs)
twice_filter p [] d = tt
twice_filter p (x ∷ xs) d = by (p x) (λ a. d.0 (from_those p xs x a).0) (twice_filter p xs d.1) where
  by : (b : Bool) → (Among x (filter p xs) → ⊥) → NoneTwice (filter p xs) → NoneTwice (cond b (x ∷ filter p xs) (filter p xs))
  by true none rest = (none, rest)
  by false none rest = rest

pub twice_join : {A : Type 0} (xs ys : List A) → NoneTwice xs → NoneTwice ys → ((x : A) → Among x xs → Among x ys → ⊥) → NoneTwice (xs ++ ys)
twice_join [] ys d e apart = e
twice_join (x ∷ xs) ys d e apart = (λ a. by (in_parts x xs ys a), twice_join xs ys d.1 e (λ y a b. apart y (inr a) b)) where
  by : Among x xs ⊎ Among x ys → ⊥
  by (inl a) = d.0 a
  by (inr a) = apart x (inl refl) a

pub counting_once : (i n : ℕ) → NoneTwice (counting i n)
counting_once i zero = tt
counting_once i (suc n) = (λ a. let r = from_counting (suc i) n i a in omega (arith, r.0), counting_once (suc i) n)

-- names of parts that differ, and that tell the part
pub differ_flat : {A : Type 0} (f : A → List (List ℕ)) (xs : List A) → NoneTwice xs → ((x : A) → Among x xs → Differ (f x))
    → ((x y : A) (n : List ℕ) → Among x xs → Among y xs → Among n (f x) → Among n (f y) → x ≡ y) → Differ (flat_map f xs)
differ_flat f [] d each tells = tt
differ_flat f (x ∷ xs) d each tells =
    differ_join (f x) (flat_map f xs) (each x (inl refl)) (differ_flat f xs d.1 (λ y a. each y (inr a)) (λ y z n a b. tells y z n (inr a) (inr b)))
    (λ n a b. let h = from_each f xs n b in d.0 (subst (λ y. Among y xs) (sym (tells x h.0 n (inl refl) (inr h.1) a h.2)) h.1))

pub differ_mapped : {A : Type 0} (f : A → List ℕ) (xs : List A) → NoneTwice (map f xs) → Differ (map f xs)
differ_mapped f [] d = tt
differ_mapped f (x ∷ xs) d = (d.0, differ_mapped f xs d.1)

-- ---- connections of a crossbar's instance

pub connection_names_join : (cs ds : List Connection) → connection_names (cs ++ ds) ≡ connection_names cs ++ connection_names ds
connection_names_join [] ds = refl
connection_names_join (c ∷ cs) ds = ap (λ ns. c.name ∷ ns) (connection_names_join cs ds)

pub connection_names_flat : {A : Type 0} (f : A → List Connection) (xs : List A) → connection_names (flat_map f xs) ≡ flat_map (λ x. connection_names (f x)) xs
connection_names_flat f [] = refl
connection_names_flat f (x ∷ xs) = connection_names_join (f x) (flat_map f xs) ∙ ap (λ ns. connection_names (f x) ++ ns) (connection_names_flat f xs)

pub connection_names_map : {A : Type 0} (f : A → Connection) (xs : List A) → connection_names (map f xs) ≡ map (λ x. (f x).name) xs
connection_names_map f [] = refl
connection_names_map f (x ∷ xs) = ap (λ ns. (f x).name ∷ ns) (connection_names_map f xs)

-- ---- clocks

-- a crossbar has no reset port
pub clock_only : (m : MergedTop) (x : ℕ) (port : TiePort) (source : List ℕ) → HasSource m port source → port.owner ≡ owner.Xbar x → port.reset ≡ false
clock_only m x port source (HasSource.instance_clock i d p s at is) e = refl
clock_only m x port source (HasSource.instance_reset i d p s at is) e = absurd (let no : owner.Inst i ≡ owner.Xbar x = e in cc)
clock_only m x port source (HasSource.crossbar_clock y listed p s at is) e = refl

pub is_listed_gives : (x : ℕ) (o : Owner) → is_listed x o ≡ true → o ≡ owner.Xbar x
is_listed_gives x (owner.Inst i) e = cc
is_listed_gives x (owner.Xbar y) e = ap owner.Xbar (eqb-true y x e)

-- a port stands at one place among the ties
pub one_place : (uses ports : List TiePort) → ArePorts uses ports → (i j : ℕ) (p : TiePort) → slice_get ports i ≡ Some p → slice_get ports j ≡ Some p → i < j → ⊥
one_place uses ports are i j p at later less = let used = are.in_order i j p p at later less in used.2 used.0 (omega arith) used.1

pub ports_once : (ports : List TiePort) → ((i j : ℕ) (p : TiePort) → slice_get ports i ≡ Some p → slice_get ports j ≡ Some p → i < j → ⊥) → NoneTwice ports
ports_once [] h = tt
ports_once (p ∷ ports) h =
    (λ a. let n = item_number ports p a in h 0 (suc n.0) p refl n.1 (omega arith), ports_once ports (λ i j q at later less. h (suc i) (suc j) q at later (omega (arith, less))))

pub from_mapped : {A B : Type 0} (f : A → B) (xs : List A) → NoneTwice (map f xs) → (x y : A) → Among x xs → Among y xs → f x ≡ f y → x ≡ y
from_mapped f [] d x y a b e = absurd a
from_mapped f (z ∷ xs) d x y (inl a) (inl b) e = a ∙ sym b
from_mapped f (z ∷ xs) d x y (inl a) (inr b) e = absurd (d.0 (subst (λ w. Among w (map f xs)) (sym (ap f (sym a) ∙ e)) (in_map f xs y b)))
from_mapped f (z ∷ xs) d x y (inr a) (inl b) e = absurd (d.0 (subst (λ w. Among w (map f xs)) (e ∙ ap f b) (in_map f xs x a)))
from_mapped f (z ∷ xs) d x y (inr a) (inr b) e = from_mapped f xs d.1 x y a b e

pub once_mapped : {A B : Type 0} (f : A → B) (xs : List A) → NoneTwice (map f xs) → NoneTwice xs
once_mapped f [] d = tt
once_mapped f (x ∷ xs) d = (λ a. d.0 (in_map f xs x a), once_mapped f xs d.1)
