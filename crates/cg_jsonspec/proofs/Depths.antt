-- How deep a tree nests, and that no part stands deeper.
use Rattle.std.proofs.Common.{◌≡◌, ℕ, suc, ◌+◌, ◌≤◌, max, List, [], ◌∷◌, ◌++◌, refl, sym, ap, ap₂, ◌∙◌, arith, inl, inr}
use Rattle.serde_json.specs.Data as json
use Rattle.serde_json.specs.Data.{Num, unsigned, negative, float, Data, Items, Members}
use Rattle.cg_docspec.specs.Place.{Place}
use Rattle.cg_docspec.specs.Tree as document
use Rattle.cg_docspec.specs.Tree.{Tree, tree, Kind, null, boolean, integer, string, array, object, Trees, no_trees, tree_and, no_members, member_and, Member, trees, members, list_of, object_of}
use Rattle.cg_docspec.specs.Depth.{StandsAt, the_root, in_list, in_object, Opener}
use Rattle.cg_jsonspec.specs.Said.{unplaced, unplaced_kind, unplaced_trees, unplaced_members, number_kind, said_kind, said_items, said_members, said}

-- ---- the nesting of trees

unfoldable mutual
  -- how many lists and objects nest in a tree
  nesting : Tree → ℕ
  nesting (tree kind at) = kind_nesting kind

  kind_nesting : Kind → ℕ
  kind_nesting null = 0
  kind_nesting (boolean b) = 0
  kind_nesting (integer z) = 0
  kind_nesting (string s) = 0
  kind_nesting (array ts) = suc (trees_nesting ts)
  kind_nesting (object ms) = suc (members_nesting ms)

  trees_nesting : Trees → ℕ
  trees_nesting no_trees = 0
  trees_nesting (tree_and t ts) = max (nesting t) (trees_nesting ts)

  members_nesting : document.Members → ℕ
  members_nesting no_members = 0
  members_nesting (member_and key key_place t ms) = max (nesting t) (members_nesting ms)

mutual
  unfolding nesting kind_nesting trees_nesting members_nesting unplaced unplaced_kind unplaced_trees unplaced_members

  -- it does not depend on places
  nests_alike : (t : Tree) → nesting (unplaced t) ≡ nesting t
  nests_alike (tree kind at) = kind_alike kind

  kind_alike : (k : Kind) → kind_nesting (unplaced_kind k) ≡ kind_nesting k
  kind_alike null = refl
  kind_alike (boolean b) = refl
  kind_alike (integer z) = refl
  kind_alike (string s) = refl
  kind_alike (array ts) = ap suc (trees_alike ts)
  kind_alike (object ms) = ap suc (members_alike ms)

  trees_alike : (ts : Trees) → trees_nesting (unplaced_trees ts) ≡ trees_nesting ts
  trees_alike no_trees = refl
  trees_alike (tree_and t ts) = ap₂ max (nests_alike t) (trees_alike ts)

  members_alike : (ms : document.Members) → members_nesting (unplaced_members ms) ≡ members_nesting ms
  members_alike no_members = refl
  members_alike (member_and key key_place t ms) = ap₂ max (nests_alike t) (members_alike ms)

-- a number has no parts
number_flat : (x : Num) → kind_nesting (number_kind x) ≡ 0
unfolding kind_nesting
number_flat (unsigned n) = refl
number_flat (negative z) = refl
number_flat (float x) = refl

mutual
  unfolding nesting kind_nesting trees_nesting members_nesting said_kind said_items said_members

  -- what a value says nests as the value does
  said_nests : (d : Data) → kind_nesting (said_kind d) ≡ json.depth d
  said_nests json.null = refl
  said_nests (json.boolean b) = refl
  said_nests (json.number x) = number_flat x
  said_nests (json.string s) = refl
  said_nests (json.array ds) = ap suc (items_nest ds)
  said_nests (json.object ms) = ap suc (members_nest ms)

  items_nest : (ds : Items) → trees_nesting (said_items ds) ≡ json.items_depth ds
  items_nest json.no_items = refl
  items_nest (json.item d ds) = ap₂ max (said_nests d) (items_nest ds)

  members_nest : (ms : Members) → members_nesting (said_members ms) ≡ json.members_depth ms
  members_nest json.no_members = refl
  members_nest (json.member key d ms) = ap₂ max (said_nests d) (members_nest ms)

-- a tree that says a value nests as the value does
nests_as : (t : Tree) (d : Data) → unplaced t ≡ said d → nesting t ≡ json.depth d
unfolding nesting
nests_as t d e = sym (nests_alike t) ∙ ap nesting e ∙ said_nests d

-- ---- parts

-- a part of a list nests no deeper than all of them
tree_within : (t : Tree) (before after : List Tree) → nesting t ≤ trees_nesting (trees (before ++ t ∷ after))
unfolding trees_nesting
tree_within t [] after = omega arith
tree_within t (u ∷ before) after = let more = tree_within t before after in omega (arith, more)

-- nor does one of an object
member_within : (m : Member) (before after : List Member) → nesting m.value ≤ members_nesting (members (before ++ m ∷ after))
unfolding members_nesting
member_within m [] after = omega arith
member_within m (n ∷ before) after = let more = member_within m before after in omega (arith, more)

-- a part of a tree nests the less the deeper it stands
stands_within : (root : Tree) (d : ℕ) (t : Tree) → StandsAt root d t → d + nesting t ≤ suc (nesting root)
unfolding nesting kind_nesting
stands_within root _ _ the_root = omega arith
stands_within root _ t (in_list {d} {at} before after up) =
    let above = stands_within root d (list_of (before ++ t ∷ after) at) up in
    let here = tree_within t before after in
    omega (arith, above, here)
stands_within root _ t (in_object {d} {at} key key_place before after up) =
    let m : Member = record { key = key; key_place = key_place; value = t } in
    let above = stands_within root d (object_of (before ++ m ∷ after) at) up in
    let here = member_within m before after in
    omega (arith, above, here)

-- no list and no object opens deeper than a tree nests
pub no_deeper : (root : Tree) (d : Data) (n : ℕ) → unplaced root ≡ said d → json.depth d ≤ n → (at : Place) → Opener root (suc n) at → ⊥
unfolding nesting kind_nesting
no_deeper root d n e h at (inl o) =
    let within = stands_within root (suc n) (object_of o.0 at) o.1 in
    absurd (omega (arith, within, nests_as root d e, h))
no_deeper root d n e h at (inr o) =
    let within = stands_within root (suc n) (list_of o.0 at) o.1 in
    absurd (omega (arith, within, nests_as root d e, h))
