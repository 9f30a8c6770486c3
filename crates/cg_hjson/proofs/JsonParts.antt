-- How a tree's parts become a JSON value, one after another.
use Rattle.std.proofs.Common.{◌≡◌, ℕ, zero, suc, ◌+◌, ◌<◌, ◌≤◌, List, [], ◌∷◌, ◌++◌, map, length, get_or, drop, drop-cons, add-one, ◌∙◌, ap, sym, subst, refl, arith, false, bytes_eq}
use Rattle.std.proofs.lemmas.List.{append-nil, append_assoc, map-append, drop_all}
use Rattle.std.specs.List.{AllByRecursion, IsDistinct}
use Rattle.serde_json.specs.Data.{Data, put}
use Rattle.serde_json.specs.Data as json
use Rattle.serde_json.specs.View.{view, items_view, items_of}
use Rattle.serde_json.specs.declared.value.Value.{Value}
use Rattle.cg_docspec.specs.Tree as document
use Rattle.cg_hjson.specs.Json.{json_of, json_items, json_members, Everywhere, WithinKind, InTrees, InMembers, keys}
use Rattle.cg_hjson.specs.Views.{kind_of, tree_of, trees_of, member_of, members_of}
use Rattle.cg_hjson.specs.declared.tree.Kind.TheVariants as form
use Rattle.cg_hjson.specs.declared.tree.Tree.{Tree, out-Tree}
use Rattle.cg_hjson.specs.declared.tree.Member.{Member, out-Member}
use Rattle.cg_hjson.proofs.Puts.{put-put}
use Rattle.cg_hjson.proofs.Views.{member-out, tree-out, of-Array, of-Object}

-- ---- lists

-- the values of some trees, as a list of them
values_of : (ts : List document.Tree) → items_of (map json_of ts) ≡ json_items (document.trees ts)
unfolding json_items
values_of [] = refl
values_of (t ∷ ts) = ap (json.item (json_of t)) (values_of ts)

-- the next tree's value
value_here : (xs : List Tree) (i : ℕ) (t : Tree) → i < length xs → t ≡ get_or xs i t →
    map json_of (trees_of (drop i xs)) ≡ json_of (tree_of t) ∷ map json_of (trees_of (drop (i + 1) xs))
value_here xs i t lt is = ap (λ (l : List Tree). map json_of (trees_of l)) (drop-cons xs i t lt) ∙ rw (← is, add-one) refl

-- one value more
pub item_step : (xs : List Tree) (i : ℕ) (t : Tree) (vs ws : List Value) (v : Value) → i < length xs → t ≡ get_or xs i t →
    map view vs ++ map json_of (trees_of (drop i xs)) ≡ map json_of (trees_of xs) →
    ws ≡ vs ++ v ∷ [] → view v ≡ json_of (tree_of t) →
    map view ws ++ map json_of (trees_of (drop (i + 1) xs)) ≡ map json_of (trees_of xs)
item_step xs i t vs ws v lt is before added value =
    rw (added, map-append, append_assoc, value, ← value_here xs i t lt is) before

-- all values
pub items_done : (xs : List Tree) (i : ℕ) (vs : List Value) → length xs ≤ i →
    map view vs ++ map json_of (trees_of (drop i xs)) ≡ map json_of (trees_of xs) →
    items_view vs ≡ json_items (document.trees (trees_of xs))
items_done xs i vs over before =
    let all : map view vs ≡ map json_of (trees_of xs) = rw (drop_all, append-nil) at before in
    ap items_of all ∙ values_of (trees_of xs)

-- ---- members

-- the object found so far, with these members put into it one after another
unfoldable pub put_all : document.Members → json.Members → json.Members
put_all document.no_members found = found
put_all (document.member_and key key_place t ms) found = put_all ms (put key (json_of t) found)

-- a member whose key they lack may be put behind them
put_all-put : (ms : document.Members) (k : List ℕ) (d : Data) (found : json.Members) → AllByRecursion (λ l. bytes_eq k l ≡ false) (keys ms) →
    put_all ms (put k d found) ≡ put k d (put_all ms found)
unfolding put_all
put_all-put document.no_members k d found other = refl
put_all-put (document.member_and l at t ms) k d found other =
    ap (put_all ms) (sym (put-put k l d (json_of t) found other.0)) ∙ put_all-put ms k d (put l (json_of t) found) other.1

-- members with different keys, put one after another, are the object's
pub put_all-once : (ms : document.Members) → IsDistinct bytes_eq (keys ms) → put_all ms json.no_members ≡ json_members ms
unfolding put_all json_members IsDistinct
put_all-once document.no_members once = refl
put_all-once (document.member_and k at t ms) once =
    put_all-put ms k (json_of t) json.no_members once.0 ∙ ap (put k (json_of t)) (put_all-once ms once.1)

-- one member more
pub member_step : (ms : List Member) (i : ℕ) (m : Member) (found next whole : json.Members) (d : Data) → i < length ms → m ≡ get_or ms i m →
    next ≡ put (out-Member m).key d found → d ≡ json_of (tree_of (out-Member m).value) →
    put_all (document.members (members_of (drop i ms))) found ≡ whole →
    put_all (document.members (members_of (drop (i + 1) ms))) next ≡ whole
unfolding put_all
member_step ms i m found next whole d lt is added value before =
    let here : put_all (document.members (members_of (drop i ms))) found ≡ put_all (document.members (members_of (drop (i + 1) ms))) next =
    ap (λ (l : List Member). put_all (document.members (members_of l)) found) (drop-cons ms i m lt)
    ∙ rw (← is, add-one, member-out m, added, value) refl in
    sym here ∙ before

-- all members
pub members_done : (ms : List Member) (i : ℕ) (found whole : json.Members) → length ms ≤ i →
    put_all (document.members (members_of (drop i ms))) found ≡ whole → found ≡ whole
unfolding put_all
members_done ms i found whole over before = rw drop_all at before

-- ---- what holds everywhere

-- holds of a value's kind and inside it
inside : (P : document.Kind → Type 0) (t : Tree) (kind : document.Kind) → kind_of (out-Tree t).kind ≡ kind → Everywhere P (tree_of t) → P kind × WithinKind P kind
unfolding Everywhere
inside P t kind is h =
    subst (λ (k : document.Kind). P k × WithinKind P k) is (subst (λ (u : document.Tree). Everywhere P u) (tree-out t) h)

-- holds in a list's values
pub in_list : (P : document.Kind → Type 0) (t : Tree) (xs : List Tree) → (out-Tree t).kind ≡ form.Array xs → Everywhere P (tree_of t) →
    InTrees P (document.trees (trees_of xs))
unfolding WithinKind
in_list P t xs is h = (inside P t _ (ap kind_of is ∙ of-Array xs) h).1

-- holds of an object, and in its members' values
pub in_object : (P : document.Kind → Type 0) (t : Tree) (ms : List Member) → (out-Tree t).kind ≡ form.Object ms → Everywhere P (tree_of t) →
    P (document.object (document.members (members_of ms))) × InMembers P (document.members (members_of ms))
unfolding WithinKind
in_object P t ms is h = inside P t _ (ap kind_of is ∙ of-Object ms) h

-- holds in each of some trees
pub in_trees : (P : document.Kind → Type 0) (xs : List Tree) (i : ℕ) (t : Tree) → i < length xs → t ≡ get_or xs i t →
    InTrees P (document.trees (trees_of xs)) → Everywhere P (tree_of t)
unfolding InTrees
in_trees P [] i t lt is h = absurd (omega arith)
in_trees P (x ∷ xs) zero t lt is h = subst (λ y. Everywhere P (tree_of y)) (sym is) h.0
in_trees P (x ∷ xs) (suc i) t lt is h = in_trees P xs i t (omega arith) is h.1

-- holds in the value of each of some members
pub in_members : (P : document.Kind → Type 0) (xs : List Member) (i : ℕ) (m : Member) → i < length xs → m ≡ get_or xs i m →
    InMembers P (document.members (members_of xs)) → Everywhere P (tree_of (out-Member m).value)
unfolding InMembers
in_members P [] i m lt is h = absurd (omega arith)
in_members P (x ∷ xs) zero m lt is h =
    let same : (member_of x).value ≡ tree_of (out-Member m).value = ap (λ y. (member_of y).value) (sym is) ∙ ap (λ y. y.value) (member-out m) in
    subst (λ (y : document.Tree). Everywhere P y) same h.0
in_members P (x ∷ xs) (suc i) m lt is h = in_members P xs i m (omega arith) is h.1
