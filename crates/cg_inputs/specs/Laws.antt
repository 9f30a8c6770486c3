-- The laws of inputs.
use Rattle.std.specs.Prelude.{◌≡◌, ◌≤◌, ◌+◌, ◌++◌, ℕ, List, length}
use Rattle.cg_inputs.specs.Lines.{Line, Says}
use Rattle.cg_inputs.specs.Input.{Command, Stop, HasReading}
use Rattle.cg_inputs.specs.Reading.{least_rest}

-- a line says one thing
abbrev pub LineSaysOneThing : Type 0
LineSaysOneThing = (text : List ℕ) (l m : Line) → Says text l → Says text m → l ≡ m

-- every input reads in some way
abbrev pub EveryInputReads : Type 0
EveryInputReads = (cs : List ℕ) → (commands : List Command) × (stop : Stop) × HasReading cs commands stop

-- and in one way
abbrev pub InputReadsOnce : Type 0
InputReadsOnce = (cs : List ℕ) (a b : List Command) (x y : Stop) → HasReading cs a x → HasReading cs b y → (a ≡ b) × (x ≡ y)

-- a line that says something and begins so has at least so many bytes more, its line feed included
abbrev pub LeastRestHolds : Type 0
LeastRestHolds = (text more : List ℕ) (l : Line) → Says (text ++ more) l → least_rest text ≤ length more + 1
