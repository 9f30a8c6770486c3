-- Parts of a value in which no object has a key twice.
use Rattle.std.proofs.Common.{◌≡◌, ℕ, List, Option, Some, None, refl}
use Rattle.std.specs.Prelude.{All}
use Rattle.std.proofs.lemmas.List.Elements.{All-nil}
use Rattle.cg_hjson.specs.Json.{HasKeysOnce, KeysDiffer}
use Rattle.cg_hjson.specs.Views.{tree_of}
use Rattle.cg_hjson.specs.declared.tree.Kind.{out-Kind}
use Rattle.cg_hjson.specs.declared.tree.Tree.{Tree}
use Rattle.cg_keys.specs.Elements.{elements, items_in}
use Rattle.cg_keys.specs.Table.{value_at}
use Rattle.cg_keys.specs.Values.{items_of, members_of}
use Rattle.cg_blkdone.proofs.Kept.{holds_at, inside, items_within, members_within}

-- no object in it has a key twice
abbrev pub Differs : Tree → Type 0
Differs t = KeysDiffer (tree_of t)

-- so it is of the items of a list
pub items_differ : (t : Tree) → Differs t → All Differs (items_of t)
items_differ t h = items_within HasKeysOnce (out-Kind t.kind) (inside HasKeysOnce t h)

-- and of the values of members
pub values_differ : (t : Tree) → Differs t → All (λ m. Differs m.value) (members_of t)
values_differ t h = members_within HasKeysOnce (out-Kind t.kind) (inside HasKeysOnce t h)

-- and of what stands at a key
pub differs_at : (t : Tree) (key : List ℕ) (v : Tree) → Differs t → value_at key (members_of t) ≡ Some v → Differs v
differs_at t key v h is = holds_at Differs key (members_of t) v (values_differ t h) is

in_items : (o : Option Tree) → ((v : Tree) → o ≡ Some v → Differs v) → All Differs (items_in o)
in_items None h = All-nil Differs
in_items (Some v) h = items_differ v (h v refl)

-- and of the elements of the list at a key
pub elements_differ : (t : Tree) (key : List ℕ) → Differs t → All Differs (elements key (members_of t))
unfolding elements
elements_differ t key h = in_items (value_at key (members_of t)) (λ v is. differs_at t key v h is)
