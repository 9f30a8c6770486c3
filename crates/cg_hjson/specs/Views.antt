-- What the program's trees stand for: the trees of the grammar, without where they lie in memory.
use Rattle.std.specs.Prelude.{ℕ, List, map}
use Rattle.cg_docspec.specs.Place.{Place}
use Rattle.cg_docspec.specs.Tree as document
use Rattle.cg_desc.specs.declared.place.At.{At}
use Rattle.cg_hjson.specs.declared.tree.Tree.{Tree}
use Rattle.cg_hjson.specs.declared.tree.Member.{Member}
use Rattle.cg_hjson.specs.declared.tree.Kind.{Kind}
use Rattle.cg_hjson.specs.declared.tree.Kind.TheOpen as level
use Rattle.cg_hjson.specs.declared.tree.Kind.TheFolds.{fold-Kind, fold-Member, fold-Tree}

-- the place for which a place of the program stands
abbrev pub place_of : At → Place
place_of at = record { byte = at.byte; line = at.line; column = at.column }

-- one level of a kind whose parts are viewed
abbrev pub kind_level : level.Kind-F document.Kind document.Member document.Tree → document.Kind
kind_level level.Null = document.null
kind_level (level.Bool b) = document.boolean b
kind_level (level.Int n) = document.integer n
kind_level (level.Str u) = document.string u
kind_level (level.Array ts) = document.array (document.trees ts)
kind_level (level.Object ms) = document.object (document.members ms)

-- a member of these parts
abbrev pub member : List ℕ → Place → document.Tree → document.Member
member key key_place value = record { key = key; key_place = key_place; value = value }

-- one level of a member
abbrev pub member_level : level.Member-F document.Kind document.Member document.Tree → document.Member
member_level m = member m.key (place_of m.key_at) m.value

-- one level of a value
abbrev pub tree_level : level.Tree-F document.Kind document.Member document.Tree → document.Tree
tree_level t = document.tree t.kind (place_of t.at)

-- the kind for which one of the program stands
unfoldable pub kind_of : Kind → document.Kind
kind_of = fold-Kind document.Kind document.Member document.Tree kind_level member_level tree_level

-- the member for which one of the program stands
unfoldable pub member_of : Member → document.Member
member_of = fold-Member document.Kind document.Member document.Tree kind_level member_level tree_level

-- the tree for which one of the program stands
unfoldable pub tree_of : Tree → document.Tree
tree_of = fold-Tree document.Kind document.Member document.Tree kind_level member_level tree_level

-- the trees for which the program's stand
abbrev pub trees_of : List Tree → List document.Tree
trees_of ts = map tree_of ts

-- the members for which the program's stand
abbrev pub members_of : List Member → List document.Member
members_of ms = map member_of ms
