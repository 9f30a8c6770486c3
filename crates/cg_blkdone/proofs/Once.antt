-- The members of an object with no key twice, and of what stands at its keys.
use Rattle.std.proofs.Common.{◌≡◌, ℕ, Bool, true, false, List, [], ◌∷◌, map, Option, Some, None, cond, bytes_eq, refl, sym, ap, ◌∙◌, subst, true≢false}
use Rattle.std.proofs.lemmas.Slice.Eq.{bytes_eq-Decides}
use Rattle.std.specs.List.{AllByRecursion, IsDistinct}
use Rattle.cg_docspec.specs.Tree as document
use Rattle.cg_hjson.specs.Json.{Everywhere, HasKeysOnce, InMembers, KeysDiffer, WithinKind, keys}
use Rattle.cg_hjson.specs.Views.{kind_level, kind_of, member_level, member_of, tree_level, tree_of}
use Rattle.cg_hjson.specs.Views as views
use Rattle.cg_hjson.specs.declared.tree.Kind.{Kind, map-Kind, out-Kind}
use Rattle.cg_hjson.specs.declared.tree.Kind.TheFolds as folds
use Rattle.cg_hjson.specs.declared.tree.Kind.TheOpen as level
use Rattle.cg_hjson.specs.declared.tree.Member.{Member}
use Rattle.cg_hjson.specs.declared.tree.Tree.{Tree}
use Rattle.cg_keys.specs.Table.{value_at}
use Rattle.cg_keys.specs.Values.{Level, members_of, object_level, or_empty}
use Rattle.cg_blkdone.proofs.Told.{member_by_fields}

-- ---- one level of a value

abbrev level_kind : Level → document.Kind
level_kind x = kind_level (map-Kind Kind Member Tree document.Kind document.Member document.Tree kind_of member_of tree_of x)

differ_by_level : (t : Tree) → KeysDiffer (tree_of t) → HasKeysOnce (level_kind (out-Kind t.kind)) × WithinKind HasKeysOnce (level_kind (out-Kind t.kind))
unfolding Everywhere kind_of member_of tree_of
differ_by_level t differ =
    let by_fields = folds.fold_out-Tree document.Kind document.Member document.Tree kind_level member_level tree_level t in
    let by_kind = folds.fold_out-Kind document.Kind document.Member document.Tree kind_level member_level tree_level t.kind in
    subst (λ (k : document.Kind). HasKeysOnce k × WithinKind HasKeysOnce k) by_kind (subst KeysDiffer by_fields differ)

abbrev key_list : List Member → List (List ℕ)
key_list ms = map (λ m. m.key) ms

keys_listed : (ms : List Member) → keys (document.members (views.members_of ms)) ≡ key_list ms
keys_listed [] = refl
keys_listed (m ∷ ms) = λ i. (member_by_fields m i).key ∷ keys_listed ms i

-- the members have different keys
abbrev pub AreOnce : List Member → Type 0
AreOnce ms = IsDistinct bytes_eq (key_list ms)

level_once : (x : Level) → HasKeysOnce (level_kind x) → AreOnce (or_empty (object_level x))
unfolding IsDistinct
level_once level.Null once = tt
level_once (level.Bool b) once = tt
level_once (level.Int n) once = tt
level_once (level.Str u) once = tt
level_once (level.Array ts) once = tt
level_once (level.Object ms) once = subst (IsDistinct bytes_eq) (keys_listed ms) once

-- the members of such an object have different keys
pub members_once : (t : Tree) → KeysDiffer (tree_of t) → AreOnce (members_of t)
members_once t differ = level_once (out-Kind t.kind) (differ_by_level t differ).0

-- ---- parts

-- the first of two values, or what stands at the key in the rest
first_or_later : (b : Bool) (key : List ℕ) (v w : Tree) (ms : List Member) → cond b (Some w) (value_at key ms) ≡ Some v → KeysDiffer (tree_of w)
    → (value_at key ms ≡ Some v → KeysDiffer (tree_of v)) → KeysDiffer (tree_of v)
first_or_later true key v w ms is first more = subst (λ x. KeysDiffer (tree_of x)) (some_same w v is) first where
  some_same : (x y : Tree) → Some x ≡ Some y → x ≡ y
  some_same x y same = ap (λ (o : Option Tree). value_or x o) same where
    value_or : Tree → Option Tree → Tree
    value_or z None = z
    value_or z (Some a) = a
first_or_later false key v w ms is first more = more is

value_differs : (key : List ℕ) (ms : List Member) (v : Tree) → InMembers HasKeysOnce (document.members (views.members_of ms)) → value_at key ms ≡ Some v → KeysDiffer (tree_of v)
unfolding InMembers value_at
value_differs key [] v differ is = absurd cc
value_differs key (m ∷ ms) v differ is =
    first_or_later (bytes_eq m.key key) key v m.value ms is
    (subst KeysDiffer (ap (λ (n : document.Member). n.value) (member_by_fields m)) differ.0)
    (value_differs key ms v differ.1)

level_value_differs : (key : List ℕ) (x : Level) (v : Tree) → WithinKind HasKeysOnce (level_kind x) → value_at key (or_empty (object_level x)) ≡ Some v → KeysDiffer (tree_of v)
unfolding WithinKind value_at
level_value_differs key level.Null v differ is = absurd cc
level_value_differs key (level.Bool b) v differ is = absurd cc
level_value_differs key (level.Int n) v differ is = absurd cc
level_value_differs key (level.Str u) v differ is = absurd cc
level_value_differs key (level.Array ts) v differ is = absurd cc
level_value_differs key (level.Object ms) v differ is = value_differs key ms v differ is

-- the value at a key has no key twice either
pub part_differs : (key : List ℕ) (t v : Tree) → KeysDiffer (tree_of t) → value_at key (members_of t) ≡ Some v → KeysDiffer (tree_of v)
part_differs key t v differ is = level_value_differs key (out-Kind t.kind) v (differ_by_level t differ).1 is

-- ---- each member is found at its key

-- each of these members is what stands at its key in the whole
abbrev pub AllFound : List Member → List Member → Type 0
AllFound whole [] = Unit {0}
AllFound whole (m ∷ ms) = (value_at m.key whole ≡ Some m.value) × AllFound whole ms

same_text : (k : List ℕ) → bytes_eq k k ≡ true
same_text k = (bytes_eq-Decides k k).1 refl

found_behind : (first : Member) (whole ms : List Member) → AllByRecursion (λ l. bytes_eq first.key l ≡ false) (key_list ms) → AllFound whole ms → AllFound (first ∷ whole) ms
unfolding value_at
found_behind first whole [] apart found = tt
found_behind first whole (m ∷ ms) apart found =
    (ap (λ b. cond b (Some first.value) (value_at m.key whole)) apart.0 ∙ found.0, found_behind first whole ms apart.1 found.1)

-- each member is found at its key
pub all_found : (ms : List Member) → AreOnce ms → AllFound ms ms
unfolding IsDistinct value_at
all_found [] once = tt
all_found (m ∷ ms) once =
    (ap (λ b. cond b (Some m.value) (value_at m.key ms)) (same_text m.key), found_behind m ms ms once.0 (all_found ms once.1))

-- a key that no member has
pub none_at : (key : List ℕ) (ms : List Member) → AllByRecursion (λ l. bytes_eq key l ≡ false) (key_list ms) → value_at key ms ≡ None
unfolding value_at
none_at key [] apart = refl
none_at key (m ∷ ms) apart = ap (λ b. cond b (Some m.value) (value_at key ms)) (other m.key apart.0) ∙ none_at key ms apart.1 where
  other : (l : List ℕ) → bytes_eq key l ≡ false → bytes_eq l key ≡ false
  other l e = differs (bytes_eq l key) refl where
    differs : (b : Bool) → bytes_eq l key ≡ b → b ≡ false
    differs true is = absurd (true≢false (sym ((bytes_eq-Decides key l).1 (sym ((bytes_eq-Decides l key).0 is))) ∙ e))
    differs false is = refl
