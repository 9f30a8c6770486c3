-- What taking a character in place says of the machine.
use Rattle.std.specs.Prelude.{ℕ, ◌≡◌, Bool, true, false, List, Option, Some, None, Result, Ok, Err}
use Rattle.cg_docspec.specs.Place.{Place}
use Rattle.cg_docspec.specs.Machine.Frame.{Frame}
use Rattle.cg_docspec.specs.Machine.Now.{Now}
use Rattle.cg_docspec.specs.Machine.State.{State, reading}
use Rattle.cg_docspec.specs.Machine.Run.{step}
use Rattle.cg_hjson.specs.declared.state.Stop.{Stop}
use Rattle.cg_hjson.specs.declared.state.Stop.TheVariants.{NoDocument, Memory}

-- What is being read goes on with the character where it is taken, whatever is open around it; else nothing changes.
abbrev pub Stays : Bool → Now → ℕ → Now → Type 0
Stays true before c after = (here : Place) (stack : List Frame) → step here (reading stack before) c ≡ Some (reading stack after)
Stays false before c after = after ≡ before

-- What is left stands for what the machine says, unless memory ran out.
abbrev pub Turns : Result Unit Stop → Option State → State → Type 0
Turns (Ok u) o after = o ≡ Some after
Turns (Err NoDocument) o after = o ≡ None
Turns (Err Memory) o after = Unit {0}
