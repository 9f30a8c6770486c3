-- The document that a JSON value says, and documents but for the places of their parts.
use Rattle.std.specs.Prelude.{ℤ, pos, negsuc, ◌^◌, ◌<◌, IsUtf8}
use Rattle.cg_docspec.specs.Place.{origin}
use Rattle.cg_docspec.specs.Tree as document
use Rattle.cg_docspec.specs.Tree.{Tree, tree, Kind, Trees, no_trees, tree_and}
use Rattle.serde_json.specs.Data.{Num, unsigned, negative, float, Data, Items, Members, null, boolean, number, string, array, object, no_items, item, no_members, member}

-- ---- documents but for places

unfoldable mutual
  -- the tree with all its parts at the text's start
  pub unplaced : Tree → Tree
  unplaced (tree kind at) = tree (unplaced_kind kind) origin

  pub unplaced_kind : Kind → Kind
  unplaced_kind document.null = document.null
  unplaced_kind (document.boolean b) = document.boolean b
  unplaced_kind (document.integer n) = document.integer n
  unplaced_kind (document.string u) = document.string u
  unplaced_kind (document.array ts) = document.array (unplaced_trees ts)
  unplaced_kind (document.object ms) = document.object (unplaced_members ms)

  pub unplaced_trees : Trees → Trees
  unplaced_trees no_trees = no_trees
  unplaced_trees (tree_and t ts) = tree_and (unplaced t) (unplaced_trees ts)

  pub unplaced_members : document.Members → document.Members
  unplaced_members document.no_members = document.no_members
  unplaced_members (document.member_and key key_place t ms) = document.member_and key origin (unplaced t) (unplaced_members ms)

-- ---- what a JSON value says

-- the integer of a number
abbrev pub number_kind : Num → Kind
number_kind (unsigned n) = document.integer (pos n)
number_kind (negative z) = document.integer z
number_kind (float x) = document.null

unfoldable mutual
  -- the kind of tree with the value's parts in their order, all at the text's start
  pub said_kind : Data → Kind
  said_kind null = document.null
  said_kind (boolean b) = document.boolean b
  said_kind (number x) = number_kind x
  said_kind (string s) = document.string s
  said_kind (array ds) = document.array (said_items ds)
  said_kind (object ms) = document.object (said_members ms)

  pub said_items : Items → Trees
  said_items no_items = no_trees
  said_items (item d ds) = tree_and (tree (said_kind d) origin) (said_items ds)

  pub said_members : Members → document.Members
  said_members no_members = document.no_members
  said_members (member key d ms) = document.member_and key origin (tree (said_kind d) origin) (said_members ms)

-- the tree that a value says
abbrev pub said : Data → Tree
said d = tree (said_kind d) origin

-- ---- values that a document can say

-- an integer from -2^63 to 2^64 - 1; `negsuc n` is -(n + 1)
abbrev pub IsIntegerOfDocuments : Num → Type 0
IsIntegerOfDocuments (unsigned n) = n < 2 ^ 64
IsIntegerOfDocuments (negative (pos n)) = ⊥
IsIntegerOfDocuments (negative (negsuc n)) = n < 2 ^ 63
IsIntegerOfDocuments (float x) = ⊥

unfoldable mutual
  -- its numbers are such integers, and its strings and keys are UTF-8
  pub IsSayable : Data → Type 0
  IsSayable null = Unit {0}
  IsSayable (boolean b) = Unit {0}
  IsSayable (number x) = IsIntegerOfDocuments x
  IsSayable (string s) = IsUtf8 s
  IsSayable (array ds) = AreSayable ds
  IsSayable (object ms) = AreSayableMembers ms

  pub AreSayable : Items → Type 0
  AreSayable no_items = Unit {0}
  AreSayable (item d ds) = IsSayable d × AreSayable ds

  pub AreSayableMembers : Members → Type 0
  AreSayableMembers no_members = Unit {0}
  AreSayableMembers (member key d ms) = IsUtf8 key × IsSayable d × AreSayableMembers ms

-- ---- trees of documents

-- an integer from -2^63 to 2^64 - 1
abbrev pub IsInRange : ℤ → Type 0
IsInRange (pos n) = n < 2 ^ 64
IsInRange (negsuc n) = n < 2 ^ 63

unfoldable mutual
  -- the tree's integers are in this range, and its strings and keys are UTF-8
  pub IsSayableTree : Tree → Type 0
  IsSayableTree (tree kind at) = IsSayableKind kind

  pub IsSayableKind : Kind → Type 0
  IsSayableKind document.null = Unit {0}
  IsSayableKind (document.boolean b) = Unit {0}
  IsSayableKind (document.integer n) = IsInRange n
  IsSayableKind (document.string u) = IsUtf8 u
  IsSayableKind (document.array ts) = AreSayableTrees ts
  IsSayableKind (document.object ms) = AreSayableTreeMembers ms

  pub AreSayableTrees : Trees → Type 0
  AreSayableTrees no_trees = Unit {0}
  AreSayableTrees (tree_and t ts) = IsSayableTree t × AreSayableTrees ts

  pub AreSayableTreeMembers : document.Members → Type 0
  AreSayableTreeMembers document.no_members = Unit {0}
  AreSayableTreeMembers (document.member_and key at t ms) = IsUtf8 key × IsSayableTree t × AreSayableTreeMembers ms
