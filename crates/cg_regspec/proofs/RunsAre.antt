-- What acts as the register block of an interface runs as it from reset, over every list of clocks.
use Rattle.std.proofs.Common.{ℕ, List, [], ◌∷◌, map}
use Rattle.cg_svspec.specs.Printable.{AllOf}
use Rattle.cg_svspec.specs.Tree.{Module}
use Rattle.cg_svspec.specs.Value.{Values, HasWidths, StatesFit, Clocked, ModuleRun, stops, goes_on}
use Rattle.cg_desc.specs.BlockRun.{BlockRun}
use Rattle.cg_desc.specs.BlockRun as block
use Rattle.cg_desc.specs.Laid.{IsLaid}
use Rattle.cg_desc.specs.Target.{target_at}
use Rattle.cg_desc.specs.declared.block.LaidFace.{LaidFace}
use Rattle.cg_desc.proofs.OneTarget.{each_address_has_one_target}
use Rattle.cg_regspec.specs.Meaning.{state_in, RegisterMeans}
use Rattle.cg_regspec.specs.Runs.{ModuleClock, IsClockOf, clock_in, outcome_of, RunsAreTheBlocks}

-- the inputs of the clocks
abbrev inputs_of : List ModuleClock → List Values
inputs_of clocks = map (λ c. c.inputs) clocks

-- inputs and states have their widths
both_fit : (m : Module) (c : ModuleClock) (state : Values) → IsClockOf m c → StatesFit m state → HasWidths m c.inputs state
both_fit m c state driven fit = record { inputs_fit = driven.fits; states_fit = fit }

-- there is a run from states that have their widths
run_exists : (name : List ℕ) (m : Module) (face : LaidFace) → RegisterMeans name m face → (clocks : List ModuleClock) → AllOf (IsClockOf m) clocks → (state : Values) → StatesFit m state
    → (outs : List Clocked) × ModuleRun m state (inputs_of clocks) outs
run_exists name m face means [] driven state fit = ([], stops state)
run_exists name m face means (c ∷ cs) driven state fit =
    let widths = both_fit m c state driven.0 fit in
    let here = means.has_valuation c.inputs state widths in
    let rest = run_exists name m face means cs driven.1 here.1 (means.widths.next_fits c.inputs state here.0 here.1 widths here.2) in
    (record { nets = here.0; after = here.1 } ∷ rest.0, goes_on state c.inputs (record { nets = here.0; after = here.1 }) (inputs_of cs) rest.0 here.2 rest.1)

-- each run from such states is the block's
run_is : (name : List ℕ) (m : Module) (face : LaidFace) → RegisterMeans name m face → IsLaid face → (clocks : List ModuleClock) → AllOf (IsClockOf m) clocks → (state : Values) → StatesFit m state
    → (outs : List Clocked) → ModuleRun m state (inputs_of clocks) outs → BlockRun face (state_in state) (map clock_in clocks) (map outcome_of outs)
run_is name m face means laid [] driven state fit [] (stops states) = block.stops (state_in state)
run_is name m face means laid [] driven state fit (out ∷ outs) run = elim run [ ]
run_is name m face means laid (c ∷ cs) driven state fit [] run = elim run [ ]
run_is name m face means laid (c ∷ cs) driven state fit (out ∷ outs) (goes_on states inputs now later others valuation rest) =
    let widths = both_fit m c state driven.0 fit in
    let target = target_at face c.access.address in
    let there = (each_address_has_one_target face laid c.access.address).there in
    block.goes_on (state_in state) (clock_in c) target (outcome_of out) (map clock_in cs) (map outcome_of outs) there
    (means.steps c.inputs state out.nets out.after c.access target widths driven.0.carries there valuation)
    (run_is name m face means laid cs driven.1 out.after (means.widths.next_fits c.inputs state out.nets out.after widths valuation) outs rest)

-- From reset, over every list of clocks.
pub runs_are_the_blocks : RunsAreTheBlocks
runs_are_the_blocks name m face means laid state reset clocks driven =
    let fit = means.widths.reset_fits state reset in (
      means.resets state reset,
      record {
        exists = run_exists name m face means clocks driven state fit;
        all = run_is name m face means laid clocks driven state fit;
      },
    )
