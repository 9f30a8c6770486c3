-- A value that says neat JSON tells it, and has no key twice.
use Rattle.std.proofs.Common.{◌≡◌, ◌∷◌, bytes_eq, refl, sym, ap, ◌∙◌, subst}
use Rattle.std.specs.List.{IsDistinct}
use Rattle.serde_json.specs.Data.{Data, array, object, put}
use Rattle.serde_json.specs.Data as json
use Rattle.cg_docspec.specs.Tree as document
use Rattle.cg_hjson.specs.Json.{Everywhere, HasKeysOnce, InMembers, InTrees, KeysDiffer, WithinKind, json_items, json_kind, json_members, json_of, keys}
use Rattle.cg_hjson.specs.Views.{tree_of}
use Rattle.cg_hjson.specs.declared.tree.Tree.{Tree}
use Rattle.cg_jsonspec.specs.Said.{unplaced, unplaced_kind, unplaced_members, unplaced_trees}
use Rattle.cg_blkdone.specs.Completed.{Says}
use Rattle.cg_blkdone.proofs.Neat.{IsNeat, neat_differs, neat_told}
use Rattle.cg_blkdone.proofs.Told.{told}

-- ---- places say nothing

mutual
  unfolding json_of json_kind json_items json_members unplaced unplaced_kind unplaced_trees unplaced_members

  without_places : (t : document.Tree) → json_of (unplaced t) ≡ json_of t
  without_places (document.tree kind at) = kind_without_places kind

  kind_without_places : (k : document.Kind) → json_kind (unplaced_kind k) ≡ json_kind k
  kind_without_places document.null = refl
  kind_without_places (document.boolean b) = refl
  kind_without_places (document.integer n) = refl
  kind_without_places (document.string u) = refl
  kind_without_places (document.array ts) = ap array (trees_without_places ts)
  kind_without_places (document.object ms) = ap object (members_without_places ms)

  trees_without_places : (ts : document.Trees) → json_items (unplaced_trees ts) ≡ json_items ts
  trees_without_places document.no_trees = refl
  trees_without_places (document.tree_and t ts) = λ i. json.item (without_places t i) (trees_without_places ts i)

  members_without_places : (ms : document.Members) → json_members (unplaced_members ms) ≡ json_members ms
  members_without_places document.no_members = refl
  members_without_places (document.member_and key at t ms) = λ i. put key (without_places t i) (members_without_places ms i)

-- a value that says neat JSON tells it
pub told_by : (u : Tree) (d : Data) → Says u d → IsNeat d → told u ≡ d
unfolding json_of
told_by u d says neat = sym (without_places (tree_of u)) ∙ ap json_of says ∙ neat_told d neat

-- ---- keys that stand twice

keys_without_places : (ms : document.Members) → keys (unplaced_members ms) ≡ keys ms
unfolding unplaced_members
keys_without_places document.no_members = refl
keys_without_places (document.member_and key at t ms) = ap (λ ks. key ∷ ks) (keys_without_places ms)

mutual
  unfolding unplaced unplaced_kind unplaced_trees unplaced_members Everywhere WithinKind InTrees InMembers

  differ_without_places : (t : document.Tree) → KeysDiffer (unplaced t) → KeysDiffer t
  differ_without_places (document.tree kind at) differ = kind_differs kind differ

  kind_differs : (k : document.Kind) → HasKeysOnce (unplaced_kind k) × WithinKind HasKeysOnce (unplaced_kind k) → HasKeysOnce k × WithinKind HasKeysOnce k
  kind_differs document.null differ = differ
  kind_differs (document.boolean b) differ = differ
  kind_differs (document.integer n) differ = differ
  kind_differs (document.string u) differ = differ
  kind_differs (document.array ts) differ = (tt, trees_differ ts differ.1)
  kind_differs (document.object ms) differ = (subst (IsDistinct bytes_eq) (keys_without_places ms) differ.0, members_differ ms differ.1)

  trees_differ : (ts : document.Trees) → InTrees HasKeysOnce (unplaced_trees ts) → InTrees HasKeysOnce ts
  trees_differ document.no_trees differ = tt
  trees_differ (document.tree_and t ts) differ = (differ_without_places t differ.0, trees_differ ts differ.1)

  members_differ : (ms : document.Members) → InMembers HasKeysOnce (unplaced_members ms) → InMembers HasKeysOnce ms
  members_differ document.no_members differ = tt
  members_differ (document.member_and key at t ms) differ = (differ_without_places t differ.0, members_differ ms differ.1)

-- a value that says neat JSON has no key twice
pub differ_by : (u : Tree) (d : Data) → Says u d → IsNeat d → KeysDiffer (tree_of u)
unfolding Everywhere
differ_by u d says neat = differ_without_places (tree_of u) (subst KeysDiffer (sym says) (neat_differs d neat))
