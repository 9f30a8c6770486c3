-- A document in which no key is found twice has each key once.
use Rattle.std.proofs.Common.{◌≡◌, ℕ, Bool, true, false, cond, ◌||◌, List, [], ◌∷◌, ◌++◌, None, refl}
use Rattle.std.specs.List.{AllByRecursion, IsDistinct}
use Rattle.std.specs.Str.{bytes_eq}
use Rattle.cg_docspec.specs.Tree as document
use Rattle.cg_finding.specs.Finding.{Finding, finding, first_of}
use Rattle.cg_finding.proofs.Firsts.{none_is_empty}
use Rattle.cg_hjson.specs.Json.{Everywhere, HasKeysOnce, InMembers, InTrees, KeysDiffer, WithinKind, keys}
use Rattle.cg_hjson.specs.Views.{tree_of}
use Rattle.cg_hjson.specs.declared.tree.Tree.{Tree}
use Rattle.cg_keys.specs.Duplicates.{at_of, duplicate_faults, is_key_among, kind_repeats, members_repeats, repeats, tree_repeats, trees_repeats}

-- ---- keys that do not repeat

-- no key is among others
abbrev Apart : List (List ℕ) → List (List ℕ) → Type 0
Apart before = AllByRecursion (λ k. is_key_among before k ≡ false)

-- two lists that are joined to an empty one are empty
empty_parts : (xs ys : List Finding) → xs ++ ys ≡ [] → (xs ≡ []) × (ys ≡ [])
empty_parts [] ys h = (refl, h)
empty_parts (x ∷ xs) ys h = cc

-- a finding that a test tells is not there
empty_when : (b : Bool) (f : Finding) → cond b (f ∷ []) [] ≡ [] → b ≡ false
empty_when true f h = cc
empty_when false f h = refl

-- neither holds
either_false : (a b : Bool) → (a || b) ≡ false → (a ≡ false) × (b ≡ false)
either_false true b h = cc
either_false false b h = (refl, h)

-- a key that is not among two lists
among_more : (a b : List (List ℕ)) (key : List ℕ) → is_key_among (a ++ b) key ≡ false → (is_key_among a key ≡ false) × (is_key_among b key ≡ false)
among_more [] b key h = (refl, h)
among_more (k ∷ a) b key h =
    let first = either_false (bytes_eq k key) (is_key_among (a ++ b) key) h in
    let more = among_more a b key first.1 in
    (rw (first.0, more.0) refl, more.1)

-- keys apart from others and from one more
apart_from : (before : List (List ℕ)) (k : List ℕ) (ks : List (List ℕ)) → Apart (before ++ k ∷ []) ks → Apart before ks × AllByRecursion (λ y. bytes_eq k y ≡ false) ks
apart_from before k [] h = (tt, tt)
apart_from before k (y ∷ ks) h =
    let here = among_more before (k ∷ []) y h.0 in
    let more = apart_from before k ks h.1 in
    ((here.0, more.0), ((either_false (bytes_eq k y) false here.1).0, more.1))

keys_apart : (before : List (List ℕ)) (ms : document.Members) → repeats before ms ≡ [] → Apart before (keys ms) × IsDistinct bytes_eq (keys ms)
unfolding repeats IsDistinct
keys_apart before document.no_members h = (tt, tt)
keys_apart before (document.member_and key at value ms) h =
    let parts = empty_parts (cond (is_key_among before key) (finding 2 20 (at_of at) key ∷ []) []) (repeats (before ++ key ∷ []) ms) h in
    let more = keys_apart (before ++ key ∷ []) ms parts.1 in
    let apart = apart_from before key (keys ms) more.0 in
    ((empty_when (is_key_among before key) (finding 2 20 (at_of at) key) parts.0, apart.0), (apart.1, more.1))

-- ---- in every object

mutual
  unfolding tree_repeats kind_repeats trees_repeats members_repeats Everywhere WithinKind InTrees InMembers

  tree_once : (t : document.Tree) → tree_repeats t ≡ [] → KeysDiffer t
  tree_once (document.tree kind at) h = kind_once kind h

  kind_once : (k : document.Kind) → kind_repeats k ≡ [] → HasKeysOnce k × WithinKind HasKeysOnce k
  kind_once document.null h = (tt, tt)
  kind_once (document.boolean b) h = (tt, tt)
  kind_once (document.integer n) h = (tt, tt)
  kind_once (document.string u) h = (tt, tt)
  kind_once (document.array ts) h = (tt, trees_once ts h)
  kind_once (document.object ms) h = let parts = empty_parts (repeats [] ms) (members_repeats ms) h in ((keys_apart [] ms parts.0).1, members_once ms parts.1)

  trees_once : (ts : document.Trees) → trees_repeats ts ≡ [] → InTrees HasKeysOnce ts
  trees_once document.no_trees h = tt
  trees_once (document.tree_and t ts) h = let parts = empty_parts (tree_repeats t) (trees_repeats ts) h in (tree_once t parts.0, trees_once ts parts.1)

  members_once : (ms : document.Members) → members_repeats ms ≡ [] → InMembers HasKeysOnce ms
  members_once document.no_members h = tt
  members_once (document.member_and key at t ms) h = let parts = empty_parts (tree_repeats t) (members_repeats ms) h in (tree_once t parts.0, members_once ms parts.1)

-- where no key stands twice, each object's keys differ
pub keys_differ : (t : Tree) → duplicate_faults t ≡ [] → KeysDiffer (tree_of t)
unfolding duplicate_faults
keys_differ t h = tree_once (tree_of t) h

pub keys_once : (t : Tree) → first_of (duplicate_faults t) ≡ None → KeysDiffer (tree_of t)
keys_once t h = keys_differ t (none_is_empty (duplicate_faults t) h)
