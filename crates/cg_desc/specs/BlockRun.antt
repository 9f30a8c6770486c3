-- A run of a register block over many clocks, each of which is a step from the state that the one before left.
use Rattle.std.specs.Prelude.{List, [], ◌∷◌}
use Rattle.cg_desc.specs.Target.{Target, IsTarget}
use Rattle.cg_desc.specs.BlockStep.{Access, State, Hardware, Outcome, BlockStep}
use Rattle.cg_desc.specs.declared.block.LaidFace.{LaidFace}

-- a clock: what software asks for, and what hardware brings
pub record Clock : Type 0 where
  pub access : Access
  pub hardware : Hardware

-- a run from this state over these clocks, with what comes of each
pub data BlockRun (face : LaidFace) : State → List Clock → List Outcome → Type 0 where
  stops : (state : State) → BlockRun face state [] []
  goes_on : (state : State) (c : Clock) (target : Target) (out : Outcome) (cs : List Clock) (outs : List Outcome) → IsTarget face c.access.address target
      → BlockStep face target c.access state c.hardware out → BlockRun face out.next cs outs → BlockRun face state (c ∷ cs) (out ∷ outs)
