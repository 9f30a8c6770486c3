-- Trees of documents by the parts that the program sees: their strings, their numbers, and how deep they are.
use Rattle.std.proofs.Common.{◌≡◌, ℕ, suc, ◌<◌, ◌^◌, ◌&&◌, Bool, true, false, List, [], ◌∷◌, ◌++◌, Option, Some, None, if◌then◌else◌, refl, sym, subst, arith}
use Rattle.std.specs.Prelude.{All, nat_le, option_and_then}
use Rattle.std.specs.Str.{IsUtf8}
use Rattle.std.proofs.lemmas.Bool.Decides.{nat_tests}
use Rattle.std.proofs.lemmas.List.{append_assoc}
use Rattle.std.proofs.lemmas.List.Elements.{All-nil, All-cons}
use Rattle.cg_docspec.specs.Place.{Place}
use Rattle.cg_docspec.specs.Tree as document
use Rattle.cg_hjson.specs.Json.{json_of}
use Rattle.cg_hjson.specs.Views.{member_of, members_of as documents_of, place_of, tree_of, trees_of}
use Rattle.cg_hjson.specs.declared.tree.Kind.{out-Kind}
use Rattle.cg_hjson.specs.declared.tree.Kind.TheOpen as level
use Rattle.cg_hjson.specs.declared.tree.Member.{Member}
use Rattle.cg_hjson.specs.declared.tree.Tree.{Tree}
use Rattle.cg_jsonspec.specs.Said.{IsSayableTree, IsSayableKind, AreSayableTrees, AreSayableTreeMembers}
use Rattle.cg_keys.specs.Elements.{elements, items_in}
use Rattle.cg_keys.specs.Forms.{if_within, number_in, number_within}
use Rattle.cg_keys.specs.Lookups.{number_at, text_at}
use Rattle.cg_keys.specs.Table.{value_at}
use Rattle.cg_keys.specs.Values.{Level, array_level, object_level, items_of, members_of, or_empty, text_in, text_level}
use Rattle.cg_blkdone.proofs.Fine.{IsFine, IsShallow, item_shallow, tree_fine, value_shallow}
use Rattle.cg_blkdone.proofs.Kept.{holds_at, member_of-fields, seen, viewed}

-- its integers and strings are of documents, and nothing in it opens deeper than n
pub record IsFineTree (n : ℕ) (t : Tree) : Type 0 where
  pub sayable : IsSayableTree (tree_of t)
  pub shallow : IsShallow n (tree_of t)

-- the value that it says is fine
pub says_fine : (n : ℕ) (t : Tree) → IsFineTree n t → IsFine n (json_of (tree_of t))
says_fine n t h = tree_fine (tree_of t) n h.sayable h.shallow

-- a member of such a tree
pub record IsFineMember (n : ℕ) (m : Member) : Type 0 where
  pub key : IsUtf8 m.key
  pub value : IsFineTree n m.value

-- the elements of a list, behind others
item_parts : (n : ℕ) (at : Place) (before : List document.Tree) (ts : List Tree) → AreSayableTrees (document.trees (trees_of ts))
    → IsShallow (suc n) (document.list_of (before ++ trees_of ts) at) → All (IsFineTree n) ts
unfolding AreSayableTrees
item_parts n at before [] s h = All-nil (IsFineTree n)
item_parts n at before (t ∷ ts) s h =
    All-cons (IsFineTree n) t ts (record { sayable = s.0; shallow = item_shallow n at before (trees_of ts) (tree_of t) h })
    (item_parts n at (before ++ tree_of t ∷ []) ts s.1 (subst (λ us. IsShallow (suc n) (document.list_of us at)) (sym (append_assoc before (tree_of t ∷ []) (trees_of ts))) h))

-- the members of an object, behind others
member_parts : (n : ℕ) (at : Place) (before : List document.Member) (ms : List Member) → AreSayableTreeMembers (document.members (documents_of ms))
    → IsShallow (suc n) (document.object_of (before ++ documents_of ms) at) → All (IsFineMember n) ms
unfolding AreSayableTreeMembers
member_parts n at before [] s h = All-nil (IsFineMember n)
member_parts n at before (m ∷ ms) s h =
    let same = member_of-fields m in
    All-cons (IsFineMember n) m ms
    (record {
      key = subst (λ (x : document.Member). IsUtf8 x.key) same s.0;
      value = record {
        sayable = subst (λ (x : document.Member). IsSayableTree x.value) same s.1;
        shallow = subst (λ (x : document.Member). IsShallow n x.value) same (value_shallow n at before (documents_of ms) (member_of m) h);
      };
    })
    (member_parts n at (before ++ member_of m ∷ []) ms s.2 (subst (λ us. IsShallow (suc n) (document.object_of us at)) (sym (append_assoc before (member_of m ∷ []) (documents_of ms))) h))

-- the parts of one level
items_at_level : (n : ℕ) (at : Place) (x : Level) → IsSayableTree (document.tree (viewed x) at) → IsShallow (suc n) (document.tree (viewed x) at)
    → All (IsFineTree n) (or_empty (array_level x))
unfolding IsSayableTree IsSayableKind
items_at_level n at level.Null s h = All-nil (IsFineTree n)
items_at_level n at (level.Bool b) s h = All-nil (IsFineTree n)
items_at_level n at (level.Int z) s h = All-nil (IsFineTree n)
items_at_level n at (level.Str u) s h = All-nil (IsFineTree n)
items_at_level n at (level.Array ts) s h = item_parts n at [] ts s h
items_at_level n at (level.Object ms) s h = All-nil (IsFineTree n)

-- the members of one level
members_at_level : (n : ℕ) (at : Place) (x : Level) → IsSayableTree (document.tree (viewed x) at) → IsShallow (suc n) (document.tree (viewed x) at)
    → All (IsFineMember n) (or_empty (object_level x))
unfolding IsSayableTree IsSayableKind
members_at_level n at level.Null s h = All-nil (IsFineMember n)
members_at_level n at (level.Bool b) s h = All-nil (IsFineMember n)
members_at_level n at (level.Int z) s h = All-nil (IsFineMember n)
members_at_level n at (level.Str u) s h = All-nil (IsFineMember n)
members_at_level n at (level.Array ts) s h = All-nil (IsFineMember n)
members_at_level n at (level.Object ms) s h = member_parts n at [] ms s h

-- the elements of a list are fine
pub fine_items : (n : ℕ) (t : Tree) → IsFineTree (suc n) t → All (IsFineTree n) (items_of t)
fine_items n t h =
    items_at_level n (place_of t.at) (out-Kind t.kind) (subst IsSayableTree (seen t) h.sayable) (subst (IsShallow (suc n)) (seen t) h.shallow)

-- so are the members of an object
pub fine_members : (n : ℕ) (t : Tree) → IsFineTree (suc n) t → All (IsFineMember n) (members_of t)
fine_members n t h =
    members_at_level n (place_of t.at) (out-Kind t.kind) (subst IsSayableTree (seen t) h.sayable) (subst (IsShallow (suc n)) (seen t) h.shallow)

-- and the value at a key
pub fine_at : (n : ℕ) (t : Tree) (key : List ℕ) (v : Tree) → IsFineTree (suc n) t → value_at key (members_of t) ≡ Some v → IsFineTree n v
fine_at n t key v h is = holds_at (IsFineTree n) key (members_of t) v (λ k d lt. (fine_members n t h k d lt).value) is

-- the elements of a value, if there is one
elements_fine : (n : ℕ) (o : Option Tree) → ((v : Tree) → o ≡ Some v → IsFineTree (suc n) v) → All (IsFineTree n) (items_in o)
elements_fine n None h = All-nil (IsFineTree n)
elements_fine n (Some v) h = fine_items n v (h v refl)

-- and the elements of the list at a key
pub fine_elements : (n : ℕ) (t : Tree) (key : List ℕ) → IsFineTree (suc (suc n)) t → All (IsFineTree n) (elements key (members_of t))
unfolding elements
fine_elements n t key h = elements_fine n (value_at key (members_of t)) (λ v. fine_at (suc n) t key v h)

-- ---- strings and numbers

-- it has the property, if it is there
abbrev pub IfAny : {X : Type 0} → (X → Type 0) → Option X → Type 0
IfAny P None = Unit {0}
IfAny P (Some x) = P x

-- the string of one level
text_at_level : (at : Place) (x : Level) → IsSayableTree (document.tree (viewed x) at) → IfAny IsUtf8 (text_level x)
unfolding IsSayableTree IsSayableKind
text_at_level at level.Null s = tt
text_at_level at (level.Bool b) s = tt
text_at_level at (level.Int z) s = tt
text_at_level at (level.Str u) s = s
text_at_level at (level.Array ts) s = tt
text_at_level at (level.Object ms) s = tt

-- the string of a value, if there is one
text_found : (n : ℕ) (o : Option Tree) → ((v : Tree) → o ≡ Some v → IsFineTree n v) → IfAny IsUtf8 (option_and_then text_in o)
text_found n None h = tt
text_found n (Some v) h = text_at_level (place_of v.at) (out-Kind v.kind) (subst IsSayableTree (seen v) (h v refl).sayable)

-- the string at a key is UTF-8
pub text_utf8 : (n : ℕ) (t : Tree) (key : List ℕ) → IsFineTree (suc n) t → IfAny IsUtf8 (text_at key (members_of t))
unfolding text_at
text_utf8 n t key h = text_found n (value_at key (members_of t)) (λ v. fine_at n t key v h)

-- a number that JSON keeps
abbrev pub IsSmall : ℕ → Type 0
IsSmall n = n < 2 ^ 64

-- a number that passes the test of a range
tested : (a b : Bool) (n most : ℕ) → nat_le n most ≡ b → most < 2 ^ 64 → IfAny IsSmall (if a && b then Some n else None)
tested false b n most e h = tt
tested true false n most e h = tt
tested true true n most e h = grind (arith, nat_tests)

-- a number within a range below 2 ^ 64
within_small : (least most : ℕ) (o : Option ℕ) → most < 2 ^ 64 → IfAny IsSmall (option_and_then (if_within least most) o)
within_small least most None h = tt
within_small least most (Some n) h = tested (nat_le least n) (nat_le n most) n most refl h

-- a number within a range
pub number_small : (t : Tree) → IfAny IsSmall (number_within 0 4294967295 t)
unfolding number_within
number_small t = within_small 0 4294967295 (number_in t) (omega arith)

-- the number of a value, if there is one
number_found : (o : Option Tree) → IfAny IsSmall (option_and_then (number_within 0 4294967295) o)
number_found None = tt
number_found (Some v) = number_small v

-- the number at a key
pub number_at_small : (key : List ℕ) (ms : List Member) → IfAny IsSmall (number_at 0 4294967295 key ms)
unfolding number_at
number_at_small key ms = number_found (value_at key ms)
