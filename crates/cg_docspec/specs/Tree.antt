-- What a document says: a tree whose parts know their places.
use Rattle.std.specs.Prelude.{ℕ, ℤ, Bool, List, [], ◌∷◌}
use Rattle.cg_docspec.specs.Place.{Place}

mutual
  -- a value, and the place of its first character
  pub data Tree : Type 0 where
    tree : Kind → Place → Tree

  -- what a value is; a string is its bytes in UTF-8
  pub data Kind : Type 0 where
    null : Kind
    boolean : Bool → Kind
    integer : ℤ → Kind
    string : List ℕ → Kind
    array : Trees → Kind
    object : Members → Kind

  -- the values of a list, in order
  pub data Trees : Type 0 where
    no_trees : Trees
    tree_and : Tree → Trees → Trees

  -- the members of an object, in order: a key, the key's place, the value
  pub data Members : Type 0 where
    no_members : Members
    member_and : List ℕ → Place → Tree → Members → Members

-- a key with its place, and its value
pub record Member : Type 0 where
  pub key : List ℕ
  pub key_place : Place
  pub value : Tree

-- values and members as they stand in a list
abbrev pub trees : List Tree → Trees
trees [] = no_trees
trees (t ∷ ts) = tree_and t (trees ts)

-- members as they stand in a list
abbrev pub members : List Member → Members
members [] = no_members
members (m ∷ ms) = member_and m.key m.key_place m.value (members ms)

-- the list of some values, and the object of some members, whose opener stands there
abbrev pub list_of : List Tree → Place → Tree
list_of ts at = tree (array (trees ts)) at

-- an object whose opener stands there
abbrev pub object_of : List Member → Place → Tree
object_of ms at = tree (object (members ms)) at

-- a string that begins there
abbrev pub string_of : List ℕ → Place → Tree
string_of u at = tree (string u) at
