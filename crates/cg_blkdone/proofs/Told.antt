-- What a value is and what stands at its keys, by the JSON value that it tells.
use Rattle.std.proofs.Common.{◌≡◌, ℕ, ℤ, pos, negsuc, Bool, true, false, List, [], ◌∷◌, map, Option, Some, option_map, option_and_then, is_some, cond, bytes_eq, refl, sym, ap, ◌∙◌, true≢false}
use Rattle.std.proofs.lemmas.Slice.Eq.{bytes_eq-Decides}
use Rattle.serde_json.specs.Data.{Data, Items, no_items, item, put}
use Rattle.serde_json.specs.Data as json
use Rattle.serde_json.specs.Find.{as_array, as_bool, as_integer, as_number, as_object, as_str, get, get_member, of_integer}
use Rattle.serde_json.proofs.Views.{get_member-put, get_member-put_other}
use Rattle.cg_docspec.specs.Tree as document
use Rattle.cg_hjson.specs.Json.{json_items, json_kind, json_members, json_of}
use Rattle.cg_hjson.specs.Views.{kind_level, kind_of, member, member_level, member_of, place_of, tree_level, tree_of, trees_of}
use Rattle.cg_hjson.specs.Views as views
use Rattle.cg_hjson.specs.declared.tree.Kind.{Kind, map-Kind, out-Kind}
use Rattle.cg_hjson.specs.declared.tree.Kind.TheFolds as folds
use Rattle.cg_hjson.specs.declared.tree.Kind.TheOpen as level
use Rattle.cg_hjson.specs.declared.tree.Member.{Member}
use Rattle.cg_hjson.specs.declared.tree.Tree.{Tree}
use Rattle.cg_keys.specs.Table.{value_at}
use Rattle.cg_keys.specs.Values.{Level, array_in, array_level, bool_in, boolean_level, int_in, int_level, members_of, object_in, object_level, or_empty, text_in, text_level}

-- the JSON value that a tree tells
abbrev pub told : Tree → Data
told t = json_of (tree_of t)

-- the integer that a value is
abbrev pub integer_in : Data → Option ℤ
integer_in d = option_and_then as_integer (as_number d)

-- the values of a list
abbrev pub listed : Items → List Data
listed no_items = []
listed (item d ds) = d ∷ listed ds

-- ---- one level of a value

-- a value by one level of what it is
abbrev pub level_told : Level → Data
level_told x = json_kind (kind_level (map-Kind Kind Member Tree document.Kind document.Member document.Tree kind_of member_of tree_of x))

-- a value by its level
pub by_level : (t : Tree) → told t ≡ level_told (out-Kind t.kind)
unfolding json_of kind_of member_of tree_of
by_level t =
    ap json_of (folds.fold_out-Tree document.Kind document.Member document.Tree kind_level member_level tree_level t)
    ∙ ap json_kind (folds.fold_out-Kind document.Kind document.Member document.Tree kind_level member_level tree_level t.kind)

-- the view of a member by its fields
pub member_by_fields : (m : Member) → member_of m ≡ member m.key (place_of m.key_at) (tree_of m.value)
unfolding kind_of member_of tree_of
member_by_fields m = folds.fold_out-Member document.Kind document.Member document.Tree kind_level member_level tree_level m

text_by_level : (x : Level) → text_level x ≡ as_str (level_told x)
unfolding json_kind
text_by_level level.Null = refl
text_by_level (level.Bool b) = refl
text_by_level (level.Int n) = refl
text_by_level (level.Str u) = refl
text_by_level (level.Array ts) = refl
text_by_level (level.Object ms) = refl

bool_by_level : (x : Level) → boolean_level x ≡ as_bool (level_told x)
unfolding json_kind
bool_by_level level.Null = refl
bool_by_level (level.Bool b) = refl
bool_by_level (level.Int n) = refl
bool_by_level (level.Str u) = refl
bool_by_level (level.Array ts) = refl
bool_by_level (level.Object ms) = refl

back : (n : ℤ) → Some n ≡ as_integer (of_integer n)
back (pos n) = refl
back (negsuc n) = refl

int_by_level : (x : Level) → int_level x ≡ integer_in (level_told x)
unfolding json_kind
int_by_level level.Null = refl
int_by_level (level.Bool b) = refl
int_by_level (level.Int n) = back n
int_by_level (level.Str u) = refl
int_by_level (level.Array ts) = refl
int_by_level (level.Object ms) = refl

listed_told : (ts : List Tree) → map told ts ≡ listed (json_items (document.trees (trees_of ts)))
unfolding json_items
listed_told [] = refl
listed_told (t ∷ ts) = ap (λ ds. told t ∷ ds) (listed_told ts)

array_by_level : (x : Level) → option_map (map told) (array_level x) ≡ option_map listed (as_array (level_told x))
unfolding json_kind
array_by_level level.Null = refl
array_by_level (level.Bool b) = refl
array_by_level (level.Int n) = refl
array_by_level (level.Str u) = refl
array_by_level (level.Array ts) = ap Some (listed_told ts)
array_by_level (level.Object ms) = refl

object_by_level : (x : Level) → is_some (object_level x) ≡ is_some (as_object (level_told x))
unfolding json_kind
object_by_level level.Null = refl
object_by_level (level.Bool b) = refl
object_by_level (level.Int n) = refl
object_by_level (level.Str u) = refl
object_by_level (level.Array ts) = refl
object_by_level (level.Object ms) = refl

-- ---- what stands at a key

found_by_first : (b : Bool) (key name : List ℕ) (v : Tree) (ms : List Member) (js : json.Members) → bytes_eq name key ≡ b
    → option_map told (value_at key ms) ≡ get_member key js → option_map told (cond b (Some v) (value_at key ms)) ≡ get_member key (put name (told v) js)
found_by_first true key name v ms js is more =
    let same : name ≡ key = (bytes_eq-Decides name key).0 is in
    sym (ap (λ k. get_member k (put name (told v) js)) (sym same) ∙ get_member-put name (told v) js)
found_by_first false key name v ms js is more =
    more ∙ sym (get_member-put_other key name (told v) js (λ same. true≢false (sym ((bytes_eq-Decides name key).1 (sym same)) ∙ is)))

found_in_members : (key : List ℕ) (ms : List Member) → option_map told (value_at key ms) ≡ get_member key (json_members (document.members (views.members_of ms)))
unfolding value_at json_members
found_in_members key [] = refl
found_in_members key (m ∷ ms) =
    let js : json.Members = json_members (document.members (views.members_of ms)) in
    found_by_first (bytes_eq m.key key) key m.key m.value ms js refl (found_in_members key ms)
    ∙ sym (ap (λ (n : document.Member). get_member key (put n.key (json_of n.value) js)) (member_by_fields m))

found_by_level : (key : List ℕ) (x : Level) → option_map told (value_at key (or_empty (object_level x))) ≡ get key (level_told x)
unfolding value_at json_kind
found_by_level key level.Null = refl
found_by_level key (level.Bool b) = refl
found_by_level key (level.Int n) = refl
found_by_level key (level.Str u) = refl
found_by_level key (level.Array ts) = refl
found_by_level key (level.Object ms) = found_in_members key ms

-- ---- the same of a value

-- the string that a value is
pub text_told : (t : Tree) → text_in t ≡ as_str (told t)
text_told t = text_by_level (out-Kind t.kind) ∙ ap as_str (sym (by_level t))

-- the truth that a value is
pub bool_told : (t : Tree) → bool_in t ≡ as_bool (told t)
bool_told t = bool_by_level (out-Kind t.kind) ∙ ap as_bool (sym (by_level t))

-- the integer that a value is
pub int_told : (t : Tree) → int_in t ≡ integer_in (told t)
int_told t = int_by_level (out-Kind t.kind) ∙ ap integer_in (sym (by_level t))

-- each element of a list tells the JSON value that stands there
pub array_told : (t : Tree) → option_map (map told) (array_in t) ≡ option_map listed (as_array (told t))
array_told t = array_by_level (out-Kind t.kind) ∙ ap (λ d. option_map listed (as_array d)) (sym (by_level t))

-- a value is an object where its JSON value is one
pub object_told : (t : Tree) → is_some (object_in t) ≡ is_some (as_object (told t))
object_told t = object_by_level (out-Kind t.kind) ∙ ap (λ d. is_some (as_object d)) (sym (by_level t))

-- the value at a key tells the JSON value that stands at the key
pub found_told : (key : List ℕ) (t : Tree) → option_map told (value_at key (members_of t)) ≡ get key (told t)
found_told key t = found_by_level key (out-Kind t.kind) ∙ ap (get key) (sym (by_level t))
