-- How one command of a session ends, and how commands do, one after the other: inner definitions.
use Rattle.std.specs.Prelude.{◌≡◌, ◌⊎◌, ◌≤◌, ◌+◌, ℕ, Bool, cond, List, [], length, Option, Result, Ok, Err}
use Rattle.cg_base.specs.Outside.{Rose, Taken, put, TookPrefix}
use Rattle.cg_inputs.specs.Input.{Command, build_files, Reads}
use Rattle.cg_deeds.specs.declared.deed.Deed.{Deed}
use Rattle.cg_deeds.specs.declared.stop.Stop.{Stop}
use Rattle.cg_deeds.specs.declared.stop.Stop.TheVariants as stop
use Rattle.cg_session.specs.Play.{Kept, Does, PlaysFrom}
use Rattle.cg_session.specs.Session.{IsSpent, no_command_line}
use Rattle.cg_session.specs.Taking.{TakesSome, TakesNext, TakesEnd, TakesFalse, TakesLess, TakesOver}
use Rattle.cg_session.specs.Turns.{Side, NotBefore, Untouched, AllDone, TurnFails, TurnUnfound}
use Rattle.cg_session.specs.declared.step.Step.{Step}
use Rattle.cg_session.specs.declared.step.Step.TheVariants as step
use Rattle.cg_session.specs.declared.ending.Ending.{Ending}
use Rattle.cg_session.specs.declared.ending.Ending.TheVariants.{Good, Refused, NoCommand, ReadFailed, WriteFailed, Memory, TooLong}

-- what is left of the input and of what counts of it, and its count of faults
pub record Inlet : Type 0 where
  pub left : Option (List ℕ)
  pub faults : ℕ
  pub room : ℕ

abbrev pub inlet : Option (List ℕ) → ℕ → ℕ → Inlet
inlet left faults room = record { left = left; faults = faults; room = room }

-- ---- one command

-- a command was taken and done
pub record StepDone (top dir : List ℕ) (k k' : Kept) (i i' : Inlet) (before after : Side) : Type 0 where
  pub command : Command
  pub takes : TakesNext command i.room i'.room i.left i'.left i.faults i'.faults
  pub deeds : List Deed
  pub does : Does top dir command k k' deeds
  pub done : AllDone deeds before after
  pub later : NotBefore before after

-- no command was done
pub record StepIdle (k k' : Kept) (before after : Side) : Type 0 where
  pub kept : k' ≡ k
  pub untouched : Untouched before after
  pub later : NotBefore before after

-- a build was taken, and one of its deeds failed
pub record StepFails (top dir : List ℕ) (k : Kept) (i i' : Inlet) (before after : Side) : Type 0 where
  pub takes : TakesNext build_files i.room i'.room i.left i'.left i.faults i'.faults
  pub fails : TurnFails top dir k before after
  pub later : NotBefore before after

-- memory was not found: for a command, or for a build
pub data StepUnfound (top dir : List ℕ) (k : Kept) (i i' : Inlet) (before after : Side) : Type 0 where
  for_command : TakesSome i.room i.left i'.left i.faults i'.faults → Untouched before after → NotBefore before after → StepUnfound top dir k i i' before after
  in_build : TakesNext build_files i.room i'.room i.left i'.left i.faults i'.faults → TurnUnfound top dir k before after → NotBefore before after
      → StepUnfound top dir k i i' before after

abbrev pub StepEnds : Step → (top dir : List ℕ) → Kept → Kept → Inlet → Inlet → Side → Side → Type 0
StepEnds step.Next top dir k k' i i' before after = StepDone top dir k k' i i' before after
StepEnds step.Finish top dir k k' i i' before after = TakesEnd i.room i.left i'.left i.faults i'.faults × StepIdle k k' before after
StepEnds step.NoCommand top dir k k' i i' before after =
    (TakesFalse i.room i.left i'.left i.faults i'.faults ⊎ (TakesLess i.room i.left i'.left i.faults i'.faults × IsSpent i'.left)) × StepIdle k k' before after
StepEnds step.TooLong top dir k k' i i' before after = TakesOver i.room i.left i'.left i.faults i'.faults × StepIdle k k' before after
StepEnds step.ReadFailed top dir k k' i i' before after = TakesLess i.room i.left i'.left i.faults i'.faults × Rose i.faults i'.faults × StepIdle k k' before after
StepEnds step.WriteFailed top dir k k' i i' before after = StepFails top dir k i i' before after
StepEnds step.Memory top dir k k' i i' before after = StepUnfound top dir k i i' before after

-- the step of a build
abbrev pub StepOfBuild : Result (Unit {0}) Stop → Step → Type 0
StepOfBuild (Ok u) s = s ≡ step.Next
StepOfBuild (Err stop.Failed) s = s ≡ step.WriteFailed
StepOfBuild (Err stop.Memory) s = s ≡ step.Memory

-- ---- commands in their order

-- commands were taken and done
pub record Played (top dir : List ℕ) (k k' : Kept) (number : ℕ) (i i' : Inlet) (before after : Side) : Type 0 where
  pub commands : List Command
  pub bytes : List ℕ
  pub taken : Taken i.left i'.left bytes
  pub reads : Reads bytes commands []
  pub counted : length bytes + i'.room ≡ i.room
  pub number_is : number ≡ length commands + 1
  pub few : number + i'.room ≤ i.room + 1
  pub deeds : List Deed
  pub plays : PlaysFrom top dir commands k k' deeds
  pub done : AllDone deeds before after
  pub later : NotBefore before after
  pub later_input : i.faults ≤ i'.faults

-- commands were taken and done, and then one ended so
pub record PlayedTo (s : Step) (top dir : List ℕ) (k k'' : Kept) (number : ℕ) (i i'' : Inlet) (before after : Side) : Type 0 where
  pub kept : Kept
  pub inlet_then : Inlet
  pub side_then : Side
  pub played : Played top dir k kept number i inlet_then before side_then
  pub ends : StepEnds s top dir kept k'' inlet_then i'' side_then after

-- ---- how a session ends by its last step

-- how the telling ends that the command of this number is none
abbrev pub NumberTold : Ending → ℕ → Option (List ℕ) → Option (List ℕ) → ℕ → ℕ → Type 0
NumberTold NoCommand number old new f g = new ≡ put old (no_command_line number)
NumberTold WriteFailed number old new f g = Rose f g × TookPrefix old new (no_command_line number)
NumberTold Memory number old new f g = (new ≡ old) ⊎ TookPrefix old new (no_command_line number)
NumberTold Good number old new f g = ⊥
NumberTold Refused number old new f g = ⊥
NumberTold ReadFailed number old new f g = ⊥
NumberTold TooLong number old new f g = ⊥

abbrev pub Finishing : Step → Ending → Bool → ℕ → Option (List ℕ) → Option (List ℕ) → ℕ → ℕ → Type 0
Finishing step.Next ending refused number old new f g = ⊥
Finishing step.Finish ending refused number old new f g = (ending ≡ cond refused Refused Good) × (new ≡ old)
Finishing step.NoCommand ending refused number old new f g = NumberTold ending number old new f g
Finishing step.TooLong ending refused number old new f g = (ending ≡ TooLong) × (new ≡ old)
Finishing step.ReadFailed ending refused number old new f g = (ending ≡ ReadFailed) × (new ≡ old)
Finishing step.WriteFailed ending refused number old new f g = (ending ≡ WriteFailed) × (new ≡ old)
Finishing step.Memory ending refused number old new f g = (ending ≡ Memory) × (new ≡ old)
