-- How one command of a session ends, by what was taken and done.
use Rattle.std.proofs.Common.{◌≡◌, ℕ, inl, inr, List, [], refl, sym, subst, arith}
use Rattle.std.specs.Prelude.{Result, Ok, Err}
use Rattle.std.specs.FinMap as fin
use Rattle.cg_base.specs.Outside.{Rose}
use Rattle.cg_deeds.specs.declared.stop.Stop.{Stop}
use Rattle.cg_deeds.specs.declared.stop.Stop.TheVariants as stop
use Rattle.cg_inputs.specs.Input.{Command, put_file, del_file, build_files}
use Rattle.cg_session.specs.Play.{Kept, keeping}
use Rattle.cg_session.specs.Session.{IsSpent}
use Rattle.cg_session.specs.Steps.{Inlet, StepIdle, for_command, in_build, StepEnds, StepOfBuild}
use Rattle.cg_session.specs.Taking.{TakesSome, TakesNext, TakesEnd, TakesFalse, TakesLess, TakesOver}
use Rattle.cg_session.specs.Turns.{Side, NotBefore, Untouched, TurnEnds}
use Rattle.cg_session.specs.declared.step.Step.{Step}
use Rattle.cg_session.specs.declared.step.Step.TheVariants as step

-- a side is no earlier than itself, and untouched
same_side : (s : Side) → NotBefore s s
same_side s = record { changes = omega arith; out = omega arith }

untouched : (s : Side) → Untouched s s
untouched s = record { files = refl; out = refl }

idle : (k k' : Kept) (s : Side) → k' ≡ k → StepIdle k k' s s
idle k k' s e = record { kept = e; untouched = untouched s; later = same_side s }

-- a whole command is some bytes
some_of : (c : Command) (i i' : Inlet) → TakesNext c i.room i'.room i.left i'.left i.faults i'.faults → TakesSome i.room i.left i'.left i.faults i'.faults
some_of c i i' t = let n = t.counted in record { bytes = t.bytes; taken = t.taken; within = omega arith; later = t.later }

module _ (top dir : List ℕ) (k k' : Kept) (i i' : Inlet) (s : Side) where
  pub step_put : (name bytes : List ℕ) → TakesNext (put_file name bytes) i.room i'.room i.left i'.left i.faults i'.faults → k' ≡ keeping (fin.insert k.files name bytes) k.good k.refused
      → StepEnds step.Next top dir k k' i i' s s
  step_put name bytes t e = record { command = put_file name bytes; takes = t; deeds = []; does = (e, refl); done = λ err. refl; later = same_side s }

  pub step_del : (name : List ℕ) → TakesNext (del_file name) i.room i'.room i.left i'.left i.faults i'.faults → k' ≡ keeping (fin.remove k.files name) k.good k.refused
      → StepEnds step.Next top dir k k' i i' s s
  step_del name t e = record { command = del_file name; takes = t; deeds = []; does = (e, refl); done = λ err. refl; later = same_side s }

  pub put_unfound : (name bytes : List ℕ) → TakesNext (put_file name bytes) i.room i'.room i.left i'.left i.faults i'.faults → StepEnds step.Memory top dir k k' i i' s s
  put_unfound name bytes t = for_command (some_of (put_file name bytes) i i' t) (untouched s) (same_side s)

  pub unfound : TakesSome i.room i.left i'.left i.faults i'.faults → StepEnds step.Memory top dir k k' i i' s s
  unfound t = for_command t (untouched s) (same_side s)

  pub step_finish : TakesEnd i.room i.left i'.left i.faults i'.faults → k' ≡ k → StepEnds step.Finish top dir k k' i i' s s
  step_finish t e = (t, idle k k' s e)

  pub step_false : TakesFalse i.room i.left i'.left i.faults i'.faults → k' ≡ k → StepEnds step.NoCommand top dir k k' i i' s s
  step_false t e = (inl t, idle k k' s e)

  pub step_cut : TakesLess i.room i.left i'.left i.faults i'.faults → IsSpent i'.left → k' ≡ k → StepEnds step.NoCommand top dir k k' i i' s s
  step_cut t spent e = (inr (t, spent), idle k k' s e)

  pub step_over : TakesOver i.room i.left i'.left i.faults i'.faults → k' ≡ k → StepEnds step.TooLong top dir k k' i i' s s
  step_over t e = (t, idle k k' s e)

  pub step_failed : TakesLess i.room i.left i'.left i.faults i'.faults → Rose i.faults i'.faults → k' ≡ k → StepEnds step.ReadFailed top dir k k' i i' s s
  step_failed t rose e = (t, rose, idle k k' s e)

-- a build
pub step_build : (r : Result (Unit {0}) Stop) (st : Step) (top dir : List ℕ) (k k' : Kept) (i i' : Inlet) (s s' : Side) → StepOfBuild r st
    → TakesNext build_files i.room i'.room i.left i'.left i.faults i'.faults → TurnEnds r top dir k k' s s' → NotBefore s s' → StepEnds st top dir k k' i i' s s'
step_build (Ok u) st top dir k k' i i' s s' is t ends later =
    subst (λ x. StepEnds x top dir k k' i i' s s') (sym is)
    (record { command = build_files; takes = t; deeds = ends.deeds; does = ends.does; done = ends.done; later = later })
step_build (Err stop.Failed) st top dir k k' i i' s s' is t ends later =
    subst (λ x. StepEnds x top dir k k' i i' s s') (sym is) (record { takes = t; fails = ends; later = later })
step_build (Err stop.Memory) st top dir k k' i i' s s' is t ends later = subst (λ x. StepEnds x top dir k k' i i' s s') (sym is) (in_build t ends later)
