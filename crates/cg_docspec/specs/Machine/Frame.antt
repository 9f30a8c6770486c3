-- What is open.
use Rattle.std.specs.Prelude.{ℕ, List}
use Rattle.cg_docspec.specs.Place.{Place}
use Rattle.cg_docspec.specs.Tree.{Tree, Member}

-- A list with its place and the values so far; an object with its members so far; the same behind the key of a member.
pub data Frame : Type 0 where
  in_list : Place → List Tree → Frame
  in_object : Place → List Member → Frame
  in_member : Place → List Member → List ℕ → Place → Frame
