-- A document in which no object has a key twice breaks no rule on keys that stand twice.
use Rattle.std.proofs.Common.{◌≡◌, ℕ, Bool, true, false, ◌||◌, cond, List, [], ◌∷◌, ◌++◌, bytes_eq, refl, ap}
use Rattle.std.specs.List.{AllByRecursion, IsDistinct}
use Rattle.cg_docspec.specs.Place.{Place}
use Rattle.cg_docspec.specs.Tree as document
use Rattle.cg_finding.specs.Finding.{finding}
use Rattle.cg_hjson.specs.Json.{Everywhere, HasKeysOnce, InMembers, InTrees, KeysDiffer, WithinKind, keys}
use Rattle.cg_hjson.specs.Views.{tree_of}
use Rattle.cg_hjson.specs.declared.tree.Tree.{Tree}
use Rattle.cg_keys.specs.Duplicates.{at_of, duplicate_faults, is_key_among, kind_repeats, members_repeats, repeat, repeats, tree_repeats, trees_repeats}
use Rattle.cg_blkdone.proofs.SoundNone.{is_none, none_by_both}

-- ---- one object

-- none of these keys stands before
abbrev New : List (List ℕ) → List (List ℕ) → Type 0
New before ks = AllByRecursion (λ k. is_key_among before k ≡ false) ks

among_last : (before : List (List ℕ)) (k l : List ℕ) → is_key_among before l ≡ false → bytes_eq k l ≡ false → is_key_among (before ++ k ∷ []) l ≡ false
among_last [] k l first last = ap (λ t. t || false) last
among_last (b ∷ bs) k l first last = by (bytes_eq b l) first (λ rest. among_last bs k l rest last) where
  by : (t : Bool) → (t || is_key_among bs l) ≡ false → (is_key_among bs l ≡ false → is_key_among (bs ++ k ∷ []) l ≡ false) → (t || is_key_among (bs ++ k ∷ []) l) ≡ false
  by true h more = absurd cc
  by false h more = more h

still_new : (before : List (List ℕ)) (k : List ℕ) (ls : List (List ℕ)) → AllByRecursion (λ l. bytes_eq k l ≡ false) ls → New before ls → New (before ++ k ∷ []) ls
still_new before k [] apart new = tt
still_new before k (l ∷ ls) apart new = (among_last before k l new.0 apart.0, still_new before k ls apart.1 new.1)

none_new : (before : List (List ℕ)) (k : List ℕ) (at : Place) → is_key_among before k ≡ false → is_none (repeat before k at) ≡ true
none_new before k at new = ap (λ t. is_none (cond t (finding 2 20 (at_of at) k ∷ []) [])) new

no_repeats : (before : List (List ℕ)) (ms : document.Members) → IsDistinct bytes_eq (keys ms) → New before (keys ms) → is_none (repeats before ms) ≡ true
unfolding repeats IsDistinct
no_repeats before document.no_members once new = refl
no_repeats before (document.member_and k at t ms) once new =
    none_by_both (repeat before k at) (repeats (before ++ k ∷ []) ms) true true (none_new before k at new.0)
    (no_repeats (before ++ k ∷ []) ms once.1 (still_new before k (keys ms) once.0 new.1))

all_new : (ks : List (List ℕ)) → New [] ks
all_new [] = tt
all_new (k ∷ ks) = (refl, all_new ks)

-- ---- all objects

mutual
  unfolding tree_repeats kind_repeats trees_repeats members_repeats Everywhere WithinKind InTrees InMembers

  none_in_tree : (t : document.Tree) → KeysDiffer t → is_none (tree_repeats t) ≡ true
  none_in_tree (document.tree kind at) differ = none_in_kind kind differ.0 differ.1

  none_in_kind : (k : document.Kind) → HasKeysOnce k → WithinKind HasKeysOnce k → is_none (kind_repeats k) ≡ true
  none_in_kind document.null once within = refl
  none_in_kind (document.boolean b) once within = refl
  none_in_kind (document.integer n) once within = refl
  none_in_kind (document.string u) once within = refl
  none_in_kind (document.array ts) once within = none_in_trees ts within
  none_in_kind (document.object ms) once within =
      none_by_both (repeats [] ms) (members_repeats ms) true true (no_repeats [] ms once (all_new (keys ms))) (none_in_members ms within)

  none_in_trees : (ts : document.Trees) → InTrees HasKeysOnce ts → is_none (trees_repeats ts) ≡ true
  none_in_trees document.no_trees within = refl
  none_in_trees (document.tree_and t ts) within =
      none_by_both (tree_repeats t) (trees_repeats ts) true true (none_in_tree t within.0) (none_in_trees ts within.1)

  none_in_members : (ms : document.Members) → InMembers HasKeysOnce ms → is_none (members_repeats ms) ≡ true
  none_in_members document.no_members within = refl
  none_in_members (document.member_and k at t ms) within =
      none_by_both (tree_repeats t) (members_repeats ms) true true (none_in_tree t within.0) (none_in_members ms within.1)

-- nothing is found of keys that stand twice
pub none_twice : (t : Tree) → KeysDiffer (tree_of t) → is_none (duplicate_faults t) ≡ true
unfolding duplicate_faults
none_twice t differ = none_in_tree (tree_of t) differ
