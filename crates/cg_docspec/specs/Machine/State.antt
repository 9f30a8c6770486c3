-- The machine's state.
use Rattle.std.specs.Prelude.{List, [], Option, None}
use Rattle.cg_docspec.specs.Tree.{Tree}
use Rattle.cg_docspec.specs.Machine.Awaited as awaited
use Rattle.cg_docspec.specs.Machine.Frame.{Frame}
use Rattle.cg_docspec.specs.Machine.Now.{Now}
use Rattle.cg_docspec.specs.Machine.Now as now

-- what is open, innermost first; what is being read; the document's tree, once it is closed
pub record State : Type 0 where
  pub stack : List Frame
  pub now : Now
  pub found : Option Tree

-- a state in which no tree was found yet
abbrev pub reading : List Frame → Now → State
reading stack now = record { stack = stack; now = now; found = None }

-- the state before a text
abbrev pub start : State
start = reading [] (now.gap awaited.root)
