-- What a value of a document is, one level at a time.
use Rattle.std.specs.Prelude.{ℕ, ℤ, Bool, List, [], Option, Some, None}
use Rattle.cg_hjson.specs.declared.tree.Tree.{Tree}
use Rattle.cg_hjson.specs.declared.tree.Member.{Member}
use Rattle.cg_hjson.specs.declared.tree.Kind.{Kind, out-Kind}
use Rattle.cg_hjson.specs.declared.tree.Kind.TheOpen as level

-- one level of a kind
abbrev pub Level : Type 0
Level = level.Kind-F Kind Member Tree

abbrev pub object_level : Level → Option (List Member)
object_level (level.Object ms) = Some ms
object_level _ = None

abbrev pub array_level : Level → Option (List Tree)
array_level (level.Array ts) = Some ts
array_level _ = None

abbrev pub text_level : Level → Option (List ℕ)
text_level (level.Str u) = Some u
text_level _ = None

abbrev pub int_level : Level → Option ℤ
int_level (level.Int n) = Some n
int_level _ = None

abbrev pub boolean_level : Level → Option Bool
boolean_level (level.Bool b) = Some b
boolean_level _ = None

-- the members of a value, where it is an object
abbrev pub object_in : Tree → Option (List Member)
object_in t = object_level (out-Kind t.kind)

-- the elements of a value, where it is a list
abbrev pub array_in : Tree → Option (List Tree)
array_in t = array_level (out-Kind t.kind)

-- the bytes of a value, where it is a string
abbrev pub text_in : Tree → Option (List ℕ)
text_in t = text_level (out-Kind t.kind)

-- the number of a value, where it is an integer
abbrev pub int_in : Tree → Option ℤ
int_in t = int_level (out-Kind t.kind)

-- the truth of a value, where it is `true` or `false` without quotes
abbrev pub bool_in : Tree → Option Bool
bool_in t = boolean_level (out-Kind t.kind)

-- the list, or none of its items where there is none
abbrev pub or_empty : {X : Type 0} → Option (List X) → List X
or_empty None = []
or_empty (Some xs) = xs

-- the members of an object; any other value has none
abbrev pub members_of : Tree → List Member
members_of t = or_empty (object_in t)

-- the elements of a list; any other value has none
abbrev pub items_of : Tree → List Tree
items_of t = or_empty (array_in t)
