-- The parts of a value of which JSON keeps all.
use Rattle.std.proofs.Common.{◌≡◌, ℕ, ◌<◌, List, [], ◌∷◌, length, get_or, Option, Some, None, unwrap_or, Bool, true, false, cond, refl, sym, ap, ◌∙◌, subst}
use Rattle.std.specs.Prelude.{All}
use Rattle.std.specs.Str.{bytes_eq}
use Rattle.std.proofs.lemmas.List.Elements.{All-nil, All-cons, All-head, All-tail}
use Rattle.cg_docspec.specs.Tree as document
use Rattle.cg_hjson.specs.Json.{Everywhere, WithinKind, InTrees, InMembers, HasKeysOnce, HasRange}
use Rattle.cg_hjson.specs.Views.{kind_level, kind_of, member_level, member_of, members_of as documents_of, place_of, tree_level, tree_of, trees_of, member}
use Rattle.cg_hjson.specs.declared.tree.Kind.{Kind, map-Kind, out-Kind}
use Rattle.cg_hjson.specs.declared.tree.Kind.TheFolds as folds
use Rattle.cg_hjson.specs.declared.tree.Kind.TheOpen as level
use Rattle.cg_hjson.specs.declared.tree.Member.{Member}
use Rattle.cg_hjson.specs.declared.tree.Tree.{Tree}
use Rattle.cg_keys.specs.Elements.{elements, items_in}
use Rattle.cg_keys.specs.Table.{value_at}
use Rattle.cg_keys.specs.Values.{Level, object_in, array_level, object_level, items_of, members_of, or_empty}
use Rattle.cg_blkdone.specs.Parts.{IsKept, AreKept, ValuesAreKept}

-- the view of a value and of a member by its fields
pub tree_of-fields : (t : Tree) → tree_of t ≡ document.tree (kind_of t.kind) (place_of t.at)
unfolding kind_of member_of tree_of
tree_of-fields t = folds.fold_out-Tree document.Kind document.Member document.Tree kind_level member_level tree_level t

pub member_of-fields : (m : Member) → member_of m ≡ member m.key (place_of m.key_at) (tree_of m.value)
unfolding kind_of member_of tree_of
member_of-fields m = folds.fold_out-Member document.Kind document.Member document.Tree kind_level member_level tree_level m

-- a kind by one level of what it is
kind_of-level : (k : Kind) → kind_of k ≡ kind_level (map-Kind Kind Member Tree document.Kind document.Member document.Tree kind_of member_of tree_of (out-Kind k))
unfolding kind_of member_of tree_of
kind_of-level k = folds.fold_out-Kind document.Kind document.Member document.Tree kind_level member_level tree_level k

-- what one level stands for
abbrev pub viewed : Level → document.Kind
viewed x = kind_level (map-Kind Kind Member Tree document.Kind document.Member document.Tree kind_of member_of tree_of x)

-- a value by one level of what it is
pub seen : (t : Tree) → tree_of t ≡ document.tree (viewed (out-Kind t.kind)) (place_of t.at)
seen t = tree_of-fields t ∙ ap (λ k. document.tree k (place_of t.at)) (kind_of-level t.kind)

-- what holds of some trees, and of the values of some members
pub trees_have : (P : document.Kind → Type 0) (ts : List Tree) → InTrees P (document.trees (trees_of ts)) → All (λ t. Everywhere P (tree_of t)) ts
unfolding InTrees
trees_have P [] h = All-nil _
trees_have P (t ∷ ts) h = All-cons (λ (u : Tree). Everywhere P (tree_of u)) t ts h.0 (trees_have P ts h.1)

-- what holds of some members holds of their values
pub members_have : (P : document.Kind → Type 0) (ms : List Member) → InMembers P (document.members (documents_of ms)) → All (λ m. Everywhere P (tree_of m.value)) ms
unfolding InMembers
members_have P [] h = All-nil _
members_have P (m ∷ ms) h =
    All-cons (λ (n : Member). Everywhere P (tree_of n.value)) m ms (subst (λ (x : document.Member). Everywhere P x.value) (member_of-fields m) h.0) (members_have P ms h.1)

-- and of the parts of one level
pub items_within : (P : document.Kind → Type 0) (x : Level) → WithinKind P (viewed x) → All (λ t. Everywhere P (tree_of t)) (or_empty (array_level x))
unfolding WithinKind
items_within P level.Null h = All-nil _
items_within P (level.Bool b) h = All-nil _
items_within P (level.Int n) h = All-nil _
items_within P (level.Str u) h = All-nil _
items_within P (level.Array ts) h = trees_have P ts h
items_within P (level.Object ms) h = All-nil _

-- the values of the members of one level
pub members_within : (P : document.Kind → Type 0) (x : Level) → WithinKind P (viewed x) → All (λ m. Everywhere P (tree_of m.value)) (or_empty (object_level x))
unfolding WithinKind
members_within P level.Null h = All-nil _
members_within P (level.Bool b) h = All-nil _
members_within P (level.Int n) h = All-nil _
members_within P (level.Str u) h = All-nil _
members_within P (level.Array ts) h = All-nil _
members_within P (level.Object ms) h = members_have P ms h

-- what holds everywhere holds inside
pub inside : (P : document.Kind → Type 0) (t : Tree) → Everywhere P (tree_of t) → WithinKind P (viewed (out-Kind t.kind))
unfolding Everywhere
inside P t h = (subst (λ (u : document.Tree). Everywhere P u) (seen t) h).1

-- the elements of a list are kept
pub kept_items : (t : Tree) → IsKept t → AreKept (items_of t)
unfolding AreKept
kept_items t h k d lt = record {
  keys = items_within HasKeysOnce (out-Kind t.kind) (inside HasKeysOnce t h.keys) k d lt;
  integers = items_within HasRange (out-Kind t.kind) (inside HasRange t h.integers) k d lt;
}

-- so are the values of an object's members
pub kept_values : (t : Tree) → IsKept t → All (λ m. IsKept m.value) (members_of t)
kept_values t h k d lt = record {
  keys = members_within HasKeysOnce (out-Kind t.kind) (inside HasKeysOnce t h.keys) k d lt;
  integers = members_within HasRange (out-Kind t.kind) (inside HasRange t h.integers) k d lt;
}

-- so are those of an object that is one
pub kept_members : (t : Tree) (ms : List Member) → IsKept t → object_in t ≡ Some ms → ValuesAreKept ms
unfolding ValuesAreKept
kept_members t ms h is = subst (λ (o : Option (List Member)). All (λ m. IsKept m.value) (or_empty o)) is (kept_values t h)

-- what holds of all values holds of the one at a key
by_first : (Q : Tree → Type 0) (here : Bool) (x v : Tree) (rest : Option Tree) → cond here (Some x) rest ≡ Some v → Q x → (rest ≡ Some v → Q v) → Q v
by_first Q true x v rest is h more = subst Q (ap (λ (o : Option Tree). unwrap_or o x) is) h
by_first Q false x v rest is h more = more is

pub holds_at : (Q : Tree → Type 0) (key : List ℕ) (ms : List Member) (v : Tree) → All (λ m. Q m.value) ms → value_at key ms ≡ Some v → Q v
unfolding value_at
holds_at Q key [] v h is = cc
holds_at Q key (m ∷ ms) v h is =
    by_first Q (bytes_eq m.key key) m.value v (value_at key ms) is (All-head (λ (n : Member). Q n.value) m ms h) (holds_at Q key ms v (All-tail (λ (n : Member). Q n.value) m ms h))

-- the value at a key
pub kept_at : (t : Tree) (key : List ℕ) (v : Tree) → IsKept t → value_at key (members_of t) ≡ Some v → IsKept v
kept_at t key v h is = holds_at IsKept key (members_of t) v (kept_values t h) is

-- the elements of a value, if there is one
elements_of : (o : Option Tree) → ((v : Tree) → o ≡ Some v → IsKept v) → AreKept (items_in o)
unfolding AreKept
elements_of None h = All-nil _
elements_of (Some v) h = kept_items v (h v refl)

-- the elements of the list at a key
pub kept_elements : (t : Tree) (key : List ℕ) → IsKept t → AreKept (elements key (members_of t))
unfolding elements
kept_elements t key h = elements_of (value_at key (members_of t)) (λ v. kept_at t key v h)

-- each of some trees, and each member's value
pub kept_in : (ts : List Tree) (i : ℕ) (t : Tree) → i < length ts → t ≡ get_or ts i t → AreKept ts → IsKept t
unfolding AreKept
kept_in ts i t lt is h = subst IsKept (sym is) (h i t lt)

-- a member's value
pub kept_in_values : (ms : List Member) (i : ℕ) (m : Member) → i < length ms → m ≡ get_or ms i m → ValuesAreKept ms → IsKept m.value
unfolding ValuesAreKept
kept_in_values ms i m lt is h = subst (λ (n : Member). IsKept n.value) (sym is) (h i m lt)

-- the first of some trees, and the others
pub kept_first : (ts us : List Tree) (t : Tree) → ts ≡ t ∷ us → AreKept ts → IsKept t
unfolding AreKept
kept_first ts us t is h = All-head IsKept t us (subst AreKept is h)

-- and the others
pub kept_rest : (ts us : List Tree) (t : Tree) → ts ≡ t ∷ us → AreKept ts → AreKept us
unfolding AreKept
kept_rest ts us t is h = All-tail IsKept t us (subst AreKept is h)
