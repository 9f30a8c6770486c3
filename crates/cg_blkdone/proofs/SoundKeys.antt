-- A block that breaks no rule has no key twice in an object.
use Rattle.std.proofs.Common.{◌≡◌, ℕ, Bool, true, false, ◌||◌, cond, List, [], ◌∷◌, ◌++◌, bytes_eq, refl}
use Rattle.std.specs.List.{AllByRecursion, IsDistinct}
use Rattle.cg_docspec.specs.Tree as document
use Rattle.cg_finding.specs.Finding.{Finding, finding}
use Rattle.cg_hjson.specs.Json.{Everywhere, HasKeysOnce, InMembers, InTrees, KeysDiffer, WithinKind, keys}
use Rattle.cg_hjson.specs.Views.{tree_of}
use Rattle.cg_hjson.specs.declared.tree.Tree.{Tree}
use Rattle.cg_keys.specs.Duplicates.{at_of, duplicate_faults, is_key_among, kind_repeats, members_repeats, repeats, tree_repeats, trees_repeats}
use Rattle.cg_blkread.specs.Keys.{key_faults}
use Rattle.cg_blkread.specs.Reads.{Violates}
use Rattle.cg_blkread.proofs.Facts.Listed.{nothing_listed}
use Rattle.cg_blkread.proofs.Sound.Empty.{empty_parts, empty_when}

-- ---- no finding

no_repeats : (t : Tree) → ((f : Finding) → ¬ Violates t f) → tree_repeats (tree_of t) ≡ []
unfolding key_faults duplicate_faults
no_repeats t sound = (empty_parts (tree_repeats (tree_of t)) _ (nothing_listed t sound).0).0

-- ---- then keys differ

both_false : (a b : Bool) → (a || b) ≡ false → (a ≡ false) × (b ≡ false)
both_false true b e = absurd cc
both_false false b e = (refl, e)

among_parts : (before : List (List ℕ)) (k l : List ℕ) → is_key_among (before ++ k ∷ []) l ≡ false → (is_key_among before l ≡ false) × (bytes_eq k l ≡ false)
among_parts [] k l none = (refl, (both_false (bytes_eq k l) false none).0)
among_parts (b ∷ before) k l none =
    let first = both_false (bytes_eq b l) (is_key_among (before ++ k ∷ []) l) none in
    let rest = among_parts before k l first.1 in
    ((λ i. first.0 i || rest.0 i), rest.1)

-- the key is one of those before
abbrev Known : List (List ℕ) → List ℕ → Type 0
Known before k = (l : List ℕ) → is_key_among before l ≡ false → bytes_eq k l ≡ false

apart : (before : List (List ℕ)) (k : List ℕ) (ms : document.Members) → Known before k → repeats before ms ≡ [] → AllByRecursion (λ l. bytes_eq k l ≡ false) (keys ms)
unfolding repeats
apart before k document.no_members known none = tt
apart before k (document.member_and key at t ms) known none =
    let parts = empty_parts (cond (is_key_among before key) (finding 2 20 (at_of at) key ∷ []) []) (repeats (before ++ key ∷ []) ms) none in (
      known key (empty_when (is_key_among before key) (finding 2 20 (at_of at) key) parts.0),
      apart (before ++ key ∷ []) k ms (λ l other. known l (among_parts before key l other).0) parts.1,
    )

once : (before : List (List ℕ)) (ms : document.Members) → repeats before ms ≡ [] → IsDistinct bytes_eq (keys ms)
unfolding repeats IsDistinct
once before document.no_members none = tt
once before (document.member_and key at t ms) none =
    let parts = empty_parts (cond (is_key_among before key) (finding 2 20 (at_of at) key ∷ []) []) (repeats (before ++ key ∷ []) ms) none in
    (apart (before ++ key ∷ []) key ms (λ l other. (among_parts before key l other).1) parts.1, once (before ++ key ∷ []) ms parts.1)

mutual
  unfolding tree_repeats kind_repeats trees_repeats members_repeats Everywhere WithinKind InTrees InMembers

  tree_differs : (t : document.Tree) → tree_repeats t ≡ [] → KeysDiffer t
  tree_differs (document.tree kind at) none = kind_differs kind none

  kind_differs : (k : document.Kind) → kind_repeats k ≡ [] → HasKeysOnce k × WithinKind HasKeysOnce k
  kind_differs document.null none = (tt, tt)
  kind_differs (document.boolean b) none = (tt, tt)
  kind_differs (document.integer n) none = (tt, tt)
  kind_differs (document.string u) none = (tt, tt)
  kind_differs (document.array ts) none = (tt, trees_differ ts none)
  kind_differs (document.object ms) none =
      let parts = empty_parts (repeats [] ms) (members_repeats ms) none in (once [] ms parts.0, members_differ ms parts.1)

  trees_differ : (ts : document.Trees) → trees_repeats ts ≡ [] → InTrees HasKeysOnce ts
  trees_differ document.no_trees none = tt
  trees_differ (document.tree_and t ts) none =
      let parts = empty_parts (tree_repeats t) (trees_repeats ts) none in (tree_differs t parts.0, trees_differ ts parts.1)

  members_differ : (ms : document.Members) → members_repeats ms ≡ [] → InMembers HasKeysOnce ms
  members_differ document.no_members none = tt
  members_differ (document.member_and key at t ms) none =
      let parts = empty_parts (tree_repeats t) (members_repeats ms) none in (tree_differs t parts.0, members_differ ms parts.1)

-- no object of a sound block has a key twice
pub sound_keys_differ : (t : Tree) → ((f : Finding) → ¬ Violates t f) → KeysDiffer (tree_of t)
sound_keys_differ t sound = tree_differs (tree_of t) (no_repeats t sound)
