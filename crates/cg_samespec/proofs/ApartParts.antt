-- The values at the keys of a tree, and the elements of its lists, stand within it.
use Rattle.std.proofs.Common.{◌≡◌, ℕ, ◌<◌, ◌≤◌, Bool, true, false, List, [], ◌∷◌, Option, Some, None, cond, bytes_eq, ap, subst, arith}
use Rattle.cg_docspec.specs.Tree as document
use Rattle.cg_desc.specs.declared.place.At.{At}
use Rattle.cg_hjson.specs.Views.{kind_level, kind_of, member, member_level, member_of, place_of, tree_level, tree_of, trees_of}
use Rattle.cg_hjson.specs.Views as views
use Rattle.cg_hjson.specs.declared.tree.Kind.{Kind, map-Kind, out-Kind}
use Rattle.cg_hjson.specs.declared.tree.Kind.TheFolds as folds
use Rattle.cg_hjson.specs.declared.tree.Kind.TheOpen as level
use Rattle.cg_hjson.specs.declared.tree.Member.{Member}
use Rattle.cg_hjson.specs.declared.tree.Tree.{Tree}
use Rattle.cg_keys.specs.Elements.{elements, items_in}
use Rattle.cg_keys.specs.Lookups.{place_at, place_or}
use Rattle.cg_keys.specs.Table.{value_at}
use Rattle.cg_keys.specs.Values.{Level, array_level, items_of, members_of, object_level, or_empty}
use Rattle.cg_samespec.proofs.ApartTrees.{MembersIn, PartsIn, StandsIn, TreesIn, wider}

-- ---- what stands where

-- the program's tree and its parts stand between these bytes
abbrev pub TreeIn : ℕ → ℕ → Tree → Type 0
TreeIn low high t = StandsIn low high (tree_of t)

-- trees that stand one behind another
abbrev pub InRow : ℕ → ℕ → List Tree → Type 0
InRow low high [] = low ≤ high
InRow low high (t ∷ ts) = (middle : ℕ) × TreeIn low middle t × InRow middle high ts

-- a tree stands there, if there is one
abbrev pub IfThere : ℕ → ℕ → Option Tree → Type 0
IfThere low high None = Unit {0}
IfThere low high (Some t) = TreeIn low high t

-- a place is there
abbrev pub PlaceIn : ℕ → ℕ → At → Type 0
PlaceIn low high at = (low ≤ at.byte) × (at.byte < high)

-- ---- one level of a tree

abbrev level_kind : Level → document.Kind
level_kind x = kind_level (map-Kind Kind Member Tree document.Kind document.Member document.Tree kind_of member_of tree_of x)

-- a tree stands there: so its place is there, and its parts stand there
record ByLevel (t : Tree) (low high : ℕ) : Type 0 where
  place : PlaceIn low high t.at
  parts : PartsIn low high (level_kind (out-Kind t.kind))

by_level : (t : Tree) (low high : ℕ) → TreeIn low high t → ByLevel t low high
unfolding StandsIn kind_of member_of tree_of
by_level t low high h =
    let by_fields = folds.fold_out-Tree document.Kind document.Member document.Tree kind_level member_level tree_level t in
    let by_kind = folds.fold_out-Kind document.Kind document.Member document.Tree kind_level member_level tree_level t.kind in
    let here = subst (StandsIn low high) by_fields h in
    record { place = (here.0, here.1); parts = subst (PartsIn low high) by_kind here.2 }

pub tree_place : (t : Tree) (low high : ℕ) → TreeIn low high t → PlaceIn low high t.at
tree_place t low high h = (by_level t low high h).place

-- ---- lists

trees_row : (ts : List Tree) (low high : ℕ) → TreesIn low high (document.trees (trees_of ts)) → InRow low high ts
unfolding TreesIn
trees_row [] low high h = h
trees_row (t ∷ ts) low high h = (h.0, h.1, trees_row ts h.0 high h.2)

-- a tree that stands between two bytes has them in order
none_row : (t : Tree) (low high : ℕ) → PlaceIn low high t.at → low ≤ high
none_row t low high h = omega (arith, h.0, h.1)

level_row : (x : Level) (low high : ℕ) → low ≤ high → PartsIn low high (level_kind x) → InRow low high (or_empty (array_level x))
unfolding PartsIn
level_row level.Null low high up h = up
level_row (level.Bool b) low high up h = up
level_row (level.Int n) low high up h = up
level_row (level.Str u) low high up h = up
level_row (level.Array ts) low high up h = trees_row ts low high h
level_row (level.Object ms) low high up h = up

-- the elements of a list
pub items_row : (t : Tree) (low high : ℕ) → TreeIn low high t → InRow low high (items_of t)
items_row t low high h = let parts = by_level t low high h in level_row (out-Kind t.kind) low high (none_row t low high parts.place) parts.parts

-- ---- members

tree_rises : (t : document.Tree) (low high : ℕ) → StandsIn low high t → low ≤ high
unfolding StandsIn
tree_rises (document.tree kind at) low high h = omega (arith, h.0, h.1)

members_rise : (ms : document.Members) (low high : ℕ) → MembersIn low high ms → low ≤ high
unfolding MembersIn
members_rise document.no_members low high h = h
members_rise (document.member_and key key_place t ms) low high h = omega (arith, tree_rises t low h.0 h.1, members_rise ms h.0 high h.2)

-- the view of a member by its fields
member_by_fields : (m : Member) → member_of m ≡ member m.key (place_of m.key_at) (tree_of m.value)
unfolding kind_of member_of tree_of
member_by_fields m = folds.fold_out-Member document.Kind document.Member document.Tree kind_level member_level tree_level m

first_or_later : (b : Bool) (t : Tree) (o : Option Tree) (low high : ℕ) → TreeIn low high t → IfThere low high o → IfThere low high (cond b (Some t) o)
first_or_later true t o low high first later = first
first_or_later false t o low high first later = later

-- what stands behind a lower byte stands there
lower_there : (o : Option Tree) (low high lower : ℕ) → lower ≤ low → IfThere low high o → IfThere lower high o
lower_there None low high lower p h = tt
lower_there (Some t) low high lower p h = wider (tree_of t) low high lower high p (omega arith) h

found : (key : List ℕ) (ms : List Member) (low high : ℕ) → MembersIn low high (document.members (views.members_of ms)) → IfThere low high (value_at key ms)
unfolding value_at MembersIn
found key [] low high h = tt
found key (m ∷ ms) low high h =
    let here : TreeIn low h.0 m.value = subst (StandsIn low h.0) (ap (λ (n : document.Member). n.value) (member_by_fields m)) h.1 in
    first_or_later (bytes_eq m.key key) m.value (value_at key ms) low high
    (wider (tree_of m.value) low h.0 low high (omega arith) (members_rise (document.members (views.members_of ms)) h.0 high h.2) here)
    (lower_there (value_at key ms) h.0 high low (tree_rises (tree_of m.value) low h.0 here) (found key ms h.0 high h.2))

level_found : (key : List ℕ) (x : Level) (low high : ℕ) → PartsIn low high (level_kind x) → IfThere low high (value_at key (or_empty (object_level x)))
unfolding PartsIn value_at
level_found key level.Null low high h = tt
level_found key (level.Bool b) low high h = tt
level_found key (level.Int n) low high h = tt
level_found key (level.Str u) low high h = tt
level_found key (level.Array ts) low high h = tt
level_found key (level.Object ms) low high h = found key ms low high h

-- the value at a key
pub value_there : (key : List ℕ) (t : Tree) (low high : ℕ) → TreeIn low high t → IfThere low high (value_at key (members_of t))
value_there key t low high h = level_found key (out-Kind t.kind) low high (by_level t low high h).parts

-- the place of the value at a key, or another place that is there
pub place_there : (key : List ℕ) (t : Tree) (otherwise : At) (low high : ℕ) → TreeIn low high t → PlaceIn low high otherwise
    → PlaceIn low high (place_at key (members_of t) otherwise)
unfolding place_at
place_there key t otherwise low high h other = by (value_at key (members_of t)) (value_there key t low high h) where
  by : (o : Option Tree) → IfThere low high o → PlaceIn low high (place_or otherwise o)
  by None there = other
  by (Some v) there = tree_place v low high there

-- the elements of the list at a key
pub elements_row : (key : List ℕ) (t : Tree) (low high : ℕ) → TreeIn low high t → InRow low high (elements key (members_of t))
unfolding elements
elements_row key t low high h = by (value_at key (members_of t)) (value_there key t low high h) where
  by : (o : Option Tree) → IfThere low high o → InRow low high (items_in o)
  by None there = none_row t low high (tree_place t low high h)
  by (Some v) there = items_row v low high there
