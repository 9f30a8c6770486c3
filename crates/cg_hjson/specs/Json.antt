-- The JSON value that a tree says, and the trees whose keys and numbers it keeps.
use Rattle.std.specs.Prelude.{ℕ, ◌≡◌, List, [], ◌∷◌, Option, Some, None, if◌then◌else◌}
use Rattle.std.specs.List.{IsDistinct}
use Rattle.std.specs.Str.{bytes_eq}
use Rattle.serde_json.specs.Data.{Data, Items, put}
use Rattle.serde_json.specs.Data as json
use Rattle.serde_json.specs.Find.{of_integer}
use Rattle.cg_docspec.specs.Tree.{Tree, tree, Kind, null, boolean, integer, string, array, object, Trees, no_trees, tree_and, Members, no_members, member_and, Member}
use Rattle.cg_hjson.specs.Integers.{in_range}

unfoldable mutual
  -- a tree's value, which has no places
  pub json_of : Tree → Data
  json_of (tree kind at) = json_kind kind

  -- each kind is its like in JSON
  pub json_kind : Kind → Data
  json_kind null = json.null
  json_kind (boolean b) = json.boolean b
  json_kind (integer n) = json.number (of_integer n)
  json_kind (string u) = json.string u
  json_kind (array ts) = json.array (json_items ts)
  json_kind (object ms) = json.object (json_members ms)

  -- the values of a list, in order
  pub json_items : Trees → Items
  json_items no_trees = json.no_items
  json_items (tree_and t ts) = json.item (json_of t) (json_items ts)

  -- the members of an object, each put where its key belongs: JSON's stand in the order of their keys' bytes
  pub json_members : Members → json.Members
  json_members no_members = json.no_members
  json_members (member_and key key_place t ms) = put key (json_of t) (json_members ms)

unfoldable mutual
  -- each value of the tree, the root too, is of a kind with this property
  pub Everywhere : (Kind → Type 0) → Tree → Type 0
  Everywhere P (tree kind at) = P kind × WithinKind P kind

  -- so are the values inside one of this kind
  pub WithinKind : (Kind → Type 0) → Kind → Type 0
  WithinKind P null = Unit {0}
  WithinKind P (boolean b) = Unit {0}
  WithinKind P (integer n) = Unit {0}
  WithinKind P (string u) = Unit {0}
  WithinKind P (array ts) = InTrees P ts
  WithinKind P (object ms) = InMembers P ms

  -- so are the values of a list
  pub InTrees : (Kind → Type 0) → Trees → Type 0
  InTrees P no_trees = Unit {0}
  InTrees P (tree_and t ts) = Everywhere P t × InTrees P ts

  -- so are the values of an object's members
  pub InMembers : (Kind → Type 0) → Members → Type 0
  InMembers P no_members = Unit {0}
  InMembers P (member_and key key_place t ms) = Everywhere P t × InMembers P ms

-- the members' keys
abbrev pub keys : Members → List (List ℕ)
keys no_members = []
keys (member_and key key_place t ms) = key ∷ keys ms

-- if it is an object, it has no key twice
abbrev pub HasKeysOnce : Kind → Type 0
HasKeysOnce (object ms) = IsDistinct bytes_eq (keys ms)
HasKeysOnce kind = Unit {0}

-- if it is an integer, it is from -2^63 to 2^64 - 1
abbrev pub HasRange : Kind → Type 0
HasRange (integer n) = in_range n ≡ Some n
HasRange kind = Unit {0}

-- no object of the tree has a key twice
abbrev pub KeysDiffer : Tree → Type 0
KeysDiffer t = Everywhere HasKeysOnce t

-- each integer of the tree is from -2^63 to 2^64 - 1
abbrev pub IntegersFit : Tree → Type 0
IntegersFit t = Everywhere HasRange t

-- the value of the first member with the key
abbrev pub value_at : List ℕ → List Member → Option Tree
value_at key [] = None
value_at key (m ∷ ms) = if bytes_eq key m.key then Some m.value else value_at key ms
