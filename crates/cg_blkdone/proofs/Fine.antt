-- JSON values that a document can say, and that are shallow enough; and the trees that give such values.
use Rattle.std.proofs.Common.{◌≡◌, ℕ, zero, suc, ◌≤◌, Bool, true, ◌&&◌, ℤ, pos, negsuc, List, [], ◌∷◌, ◌++◌, inl, inr, refl, sym, ap, subst, arith, Ordering, Less, Equal, Greater}
use Rattle.std.specs.Prelude.{nat_lt}
use Rattle.std.specs.Str.{IsAscii, IsUtf8}
use Rattle.std.specs.Ordering.{match_ordering, nat_cmp}
use Rattle.std.specs.Cmp.Lexicographic.{slice_cmp}
use Rattle.std.proofs.lemmas.Bool.{and_parts, ltb-true}
use Rattle.std.proofs.lemmas.List.{append_assoc}
use Rattle.std.proofs.lemmas.Str.{IsUtf8-from_ascii}
use Rattle.std.proofs.lemmas.Str.Ascii.{IsAscii-nil, IsAscii-cons}
use Rattle.serde_json.specs.Data.{Data, Items, Members, null, boolean, number, string, array, object, no_members, member, put, depth, items_depth, members_depth}
use Rattle.serde_json.specs.Find.{of_integer}
use Rattle.serde_json.specs.View.{items_of}
use Rattle.cg_docspec.specs.Depth.{Opener, StandsAt, the_root, in_list, in_object}
use Rattle.cg_docspec.specs.Place.{Place}
use Rattle.cg_docspec.specs.Tree as document
use Rattle.cg_hjson.specs.Json.{json_of, json_kind, json_items, json_members}
use Rattle.cg_jsonspec.specs.Said.{IsInRange, IsIntegerOfDocuments, IsSayable, AreSayable, AreSayableMembers, IsSayableTree, IsSayableKind, AreSayableTrees, AreSayableTreeMembers}
use Rattle.cg_blkdone.specs.Full.{Pair, put_all, with_all, list_of}

-- ---- values

-- a document can say the value, and it is at most n deep
abbrev pub IsFine : ℕ → Data → Type 0
IsFine n d = IsSayable d × (depth d ≤ n)

-- all of these are fine
abbrev pub AreFine : ℕ → List Data → Type 0
AreFine n [] = Unit {0}
AreFine n (d ∷ ds) = IsFine n d × AreFine n ds

-- so are the items of a list, and the members of an object
abbrev FineItems : ℕ → Items → Type 0
FineItems n ds = AreSayable ds × (items_depth ds ≤ n)

abbrev FineMembers : ℕ → Members → Type 0
FineMembers n ms = AreSayableMembers ms × (members_depth ms ≤ n)

-- the parts that are put into an object
abbrev pub FinePairs : ℕ → List Pair → Type 0
FinePairs n [] = Unit {0}
FinePairs n (p ∷ ps) = IsUtf8 p.key × IsFine n p.value × FinePairs n ps

-- the items of fine values
items_fine : (n : ℕ) (ds : List Data) → AreFine n ds → FineItems n (items_of ds)
unfolding AreSayable
items_fine n [] h = (tt, omega arith)
items_fine n (d ∷ ds) h = let more = items_fine n ds h.1 in ((h.0.0, more.0), omega (arith, h.0.1, more.1))

-- a list of fine values
pub list_fine : (n : ℕ) (ds : List Data) → AreFine n ds → IsFine (suc n) (list_of ds)
unfolding IsSayable
list_fine n ds h = let is = items_fine n ds h in (is.0, omega (arith, is.1))

-- members of which one choice is taken
by_order : (o : Ordering) (n : ℕ) (a b c : Members) → FineMembers n a → FineMembers n b → FineMembers n c → FineMembers n (match_ordering o a b c)
by_order Less n a b c x y z = x
by_order Equal n a b c x y z = y
by_order Greater n a b c x y z = z

-- a fine value put into fine members
put_fine : (n : ℕ) (k : List ℕ) (d : Data) (ms : Members) → IsUtf8 k → IsFine n d → FineMembers n ms → FineMembers n (put k d ms)
unfolding AreSayableMembers
put_fine n k d no_members u h m = ((u, h.0, tt), omega (arith, h.1))
put_fine n k d (member l e ms) u h m =
    let left : members_depth ms ≤ n = omega (arith, m.1) in
    let here : depth e ≤ n = omega (arith, m.1) in
    let more = put_fine n k d ms u h (m.0.2, left) in
    by_order (slice_cmp nat_cmp k l) n (member k d (member l e ms)) (member l d ms) (member l e (put k d ms))
    ((u, h.0, m.0), omega (arith, h.1, m.1)) ((m.0.0, h.0, m.0.2), omega (arith, h.1, left)) ((m.0.0, m.0.1, more.0), omega (arith, here, more.1))

-- fine parts put into fine members
all_fine : (n : ℕ) (ps : List Pair) (ms : Members) → FinePairs n ps → FineMembers n ms → FineMembers n (put_all ps ms)
all_fine n [] ms h m = m
all_fine n (p ∷ ps) ms h m = all_fine n ps (put p.key p.value ms) h.2 (put_fine n p.key p.value ms h.0 h.1 m)

-- a value with fine parts put in place
pub fine_with : (n : ℕ) (ps : List Pair) (d : Data) → FinePairs n ps → IsFine (suc n) d → IsFine (suc n) (with_all ps d)
unfolding with_all IsSayable
fine_with n ps null h f = f
fine_with n ps (boolean b) h f = f
fine_with n ps (number x) h f = f
fine_with n ps (string s) h f = f
fine_with n ps (array ds) h f = f
fine_with n ps (object ms) h f = let is = all_fine n ps ms h (f.0, omega (arith, f.1)) in (is.0, omega (arith, is.1))

-- ---- words

-- all are below 128
abbrev pub are_low : List ℕ → Bool
are_low [] = true
are_low (c ∷ s) = nat_lt c 128 && are_low s

-- characters below 128
pub low_ascii : (s : List ℕ) → are_low s ≡ true → IsAscii s
low_ascii [] e = IsAscii-nil
low_ascii (c ∷ s) e = let p = and_parts (nat_lt c 128) (are_low s) e in IsAscii-cons c s (ltb-true c 128 p.0) (low_ascii s p.1)

-- a word of ASCII, by computing it
pub a_word : (s : List ℕ) → are_low s ≡ true → IsUtf8 s
a_word s e = IsUtf8-from_ascii s (low_ascii s e)

-- ---- trees of the grammar

-- no object and no list opens deeper than n
abbrev pub IsShallow : ℕ → document.Tree → Type 0
IsShallow n t = (at : Place) → Opener t (suc n) at → ⊥

-- what stands in a part stands one deeper in the whole
list_holds : {at : Place} (before after : List document.Tree) (t : document.Tree) {d : ℕ} {x : document.Tree} → StandsAt t d x
    → StandsAt (document.list_of (before ++ t ∷ after) at) (suc d) x
list_holds before after t the_root = in_list before after the_root
list_holds before after t (in_list b a up) = in_list b a (list_holds before after t up)
list_holds before after t (in_object key place b a up) = in_object key place b a (list_holds before after t up)

-- so does what stands in the value of a member
object_holds : {at : Place} (before after : List document.Member) (m : document.Member) {d : ℕ} {x : document.Tree} → StandsAt m.value d x
    → StandsAt (document.object_of (before ++ m ∷ after) at) (suc d) x
object_holds before after m the_root = in_object m.key m.key_place before after the_root
object_holds before after m (in_list b a up) = in_list b a (object_holds before after m up)
object_holds before after m (in_object key place b a up) = in_object key place b a (object_holds before after m up)

-- so parts are the shallower
pub item_shallow : (n : ℕ) (at : Place) (before after : List document.Tree) (t : document.Tree)
    → IsShallow (suc n) (document.list_of (before ++ t ∷ after) at) → IsShallow n t
item_shallow n at before after t h place (inl o) = h place (inl (o.0, list_holds before after t o.1))
item_shallow n at before after t h place (inr o) = h place (inr (o.0, list_holds before after t o.1))

-- so is the value of a member
pub value_shallow : (n : ℕ) (at : Place) (before after : List document.Member) (m : document.Member)
    → IsShallow (suc n) (document.object_of (before ++ m ∷ after) at) → IsShallow n m.value
value_shallow n at before after m h place (inl o) = h place (inl (o.0, object_holds before after m o.1))
value_shallow n at before after m h place (inr o) = h place (inr (o.0, object_holds before after m o.1))

-- parts as lists
abbrev tree_list : document.Trees → List document.Tree
tree_list document.no_trees = []
tree_list (document.tree_and t ts) = t ∷ tree_list ts

-- members as a list
abbrev member_list : document.Members → List document.Member
member_list document.no_members = []
member_list (document.member_and key at value ms) = record { key = key; key_place = at; value = value } ∷ member_list ms

-- the lists stand for the parts
trees-tree_list : (ts : document.Trees) → document.trees (tree_list ts) ≡ ts
trees-tree_list document.no_trees = refl
trees-tree_list (document.tree_and t ts) = ap (document.tree_and t) (trees-tree_list ts)

members-member_list : (ms : document.Members) → document.members (member_list ms) ≡ ms
members-member_list document.no_members = refl
members-member_list (document.member_and key at value ms) = ap (document.member_and key at value) (members-member_list ms)

-- ---- what such trees say

-- an integer of documents
integer_sayable : (z : ℤ) → IsInRange z → IsIntegerOfDocuments (of_integer z)
integer_sayable (pos n) h = h
integer_sayable (negsuc n) h = h

mutual
  unfolding json_of json_kind json_items json_members IsSayable AreSayable AreSayableMembers IsSayableTree IsSayableKind AreSayableTrees AreSayableTreeMembers

  -- a tree at most n deep that a document can have says such a value
  pub tree_fine : (t : document.Tree) (n : ℕ) → IsSayableTree t → IsShallow n t → IsFine n (json_of t)
  tree_fine (document.tree kind at) n s h = kind_fine kind n at s h

  kind_fine : (k : document.Kind) (n : ℕ) (at : Place) → IsSayableKind k → IsShallow n (document.tree k at) → IsFine n (json_kind k)
  kind_fine document.null n at s h = (tt, omega arith)
  kind_fine (document.boolean b) n at s h = (tt, omega arith)
  kind_fine (document.integer z) n at s h = (integer_sayable z s, omega arith)
  kind_fine (document.string u) n at s h = (s, omega arith)
  kind_fine (document.array ts) zero at s h =
      absurd (h at (inr (tree_list ts, subst (λ us. StandsAt (document.tree (document.array ts) at) 1 (document.tree (document.array us) at)) (sym (trees-tree_list ts)) the_root)))
  kind_fine (document.array ts) (suc n) at s h =
      let is = trees_fine ts n at [] s (subst (λ us. IsShallow (suc n) (document.tree (document.array us) at)) (sym (trees-tree_list ts)) h) in
      (is.0, omega (arith, is.1))
  kind_fine (document.object ms) zero at s h =
      absurd (h at (inl (member_list ms, subst (λ us. StandsAt (document.tree (document.object ms) at) 1 (document.tree (document.object us) at)) (sym (members-member_list ms)) the_root)))
  kind_fine (document.object ms) (suc n) at s h =
      let is = members_fine ms n at [] s (subst (λ us. IsShallow (suc n) (document.tree (document.object us) at)) (sym (members-member_list ms)) h) in
      (is.0, omega (arith, is.1))

  trees_fine : (ts : document.Trees) (n : ℕ) (at : Place) (before : List document.Tree) → AreSayableTrees ts
      → IsShallow (suc n) (document.list_of (before ++ tree_list ts) at) → FineItems n (json_items ts)
  trees_fine document.no_trees n at before s h = (tt, omega arith)
  trees_fine (document.tree_and t ts) n at before s h =
      let first = tree_fine t n s.0 (item_shallow n at before (tree_list ts) t h) in
      let more = trees_fine ts n at (before ++ t ∷ []) s.1 (subst (λ us. IsShallow (suc n) (document.list_of us at)) (sym (append_assoc before (t ∷ []) (tree_list ts))) h) in
      ((first.0, more.0), omega (arith, first.1, more.1))

  members_fine : (ms : document.Members) (n : ℕ) (at : Place) (before : List document.Member) → AreSayableTreeMembers ms
      → IsShallow (suc n) (document.object_of (before ++ member_list ms) at) → FineMembers n (json_members ms)
  members_fine document.no_members n at before s h = (tt, omega arith)
  members_fine (document.member_and key place t ms) n at before s h =
      let m : document.Member = record { key = key; key_place = place; value = t } in
      let first = tree_fine t n s.1 (value_shallow n at before (member_list ms) m h) in
      let more = members_fine ms n at (before ++ m ∷ []) s.2 (subst (λ us. IsShallow (suc n) (document.object_of us at)) (sym (append_assoc before (m ∷ []) (member_list ms))) h) in
      put_fine n key (json_of t) (json_members ms) s.0 first more
