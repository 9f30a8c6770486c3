-- Runs of a register module from its reset, over any clocks.
use Rattle.std.specs.Prelude.{◌≡◌, ℕ, ◌^◌, ◌<◌, List, [], ◌∷◌, length, map}
use Rattle.cg_svspec.specs.Names.{Among}
use Rattle.cg_svspec.specs.Printable.{AllOf}
use Rattle.cg_svspec.specs.Tree.{Module}
use Rattle.cg_svspec.specs.Value.{Values, InputsFit, IsReset, Clocked, ModuleRun}
use Rattle.cg_desc.specs.BlockStep.{Access, Outcome}
use Rattle.cg_desc.specs.BlockRun.{Clock, BlockRun}
use Rattle.cg_desc.specs.Laid.{IsLaid}
use Rattle.cg_desc.specs.declared.block.LaidFace.{LaidFace}
use Rattle.cg_regspec.specs.NetNames.{reg_we, reg_re, reg_addr, reg_wdata, reg_be}
use Rattle.cg_regspec.specs.Meaning.{Carries, hardware_in, state_in, outcome_in, StateIsReset, RegisterMeans}

-- the inputs of a clock, and the access that they carry
pub record ModuleClock : Type 0 where
  pub inputs : Values
  pub access : Access

-- the inputs have their widths, and carry the access
pub record IsClockOf (m : Module) (c : ModuleClock) : Type 0 where
  pub fits : InputsFit m c.inputs
  pub carries : Carries c.inputs c.access

-- the clock as the block takes it
abbrev pub clock_in : ModuleClock → Clock
clock_in c = record { access = c.access; hardware = hardware_in c.inputs }

-- what comes of it, as the module's outputs and next states have it
abbrev pub outcome_of : Clocked → Outcome
outcome_of c = outcome_in c.nets c.after

-- Over these clocks the module has a run from these states, and each such run is a run of the block from the state that the states hold.
pub record RunsAsBlock (m : Module) (face : LaidFace) (state : Values) (clocks : List ModuleClock) : Type 0 where
  pub exists : (outs : List Clocked) × ModuleRun m state (map (λ c. c.inputs) clocks) outs
  pub all : (outs : List Clocked) → ModuleRun m state (map (λ c. c.inputs) clocks) outs → BlockRun face (state_in state) (map clock_in clocks) (map outcome_of outs)

-- What acts as the register block of a laid interface runs as it from reset, over every list of clocks. Its states at reset, which
-- exist, are the fields' reset values with nothing staged.
abbrev pub RunsAreTheBlocks : Type 0
RunsAreTheBlocks =
    (name : List ℕ) (m : Module) (face : LaidFace) → RegisterMeans name m face → IsLaid face → (state : Values) → IsReset m state
    → (clocks : List ModuleClock) → AllOf (IsClockOf m) clocks → StateIsReset face state × RunsAsBlock m face state clocks

-- ---- no access is left out

-- any access that software can make
pub record IsAccess (a : Access) : Type 0 where
  pub small : a.address < 2 ^ 32
  pub data_wide : length a.data_in ≡ 32
  pub strobes_wide : length a.strobes ≡ 4

-- the inputs by which software asks
abbrev pub access_nets : List (List ℕ)
access_nets = reg_we ∷ reg_re ∷ reg_addr ∷ reg_wdata ∷ reg_be ∷ []

-- inputs that carry the access and are these otherwise
pub record IsCarried (m : Module) (a : Access) (brought : Values) : Type 0 where
  pub inputs : Values
  pub is_clock : IsClockOf m (record { inputs = inputs; access = a })
  pub others : (n : List ℕ) → (Among n access_nets → ⊥) → inputs n ≡ brought n

-- Each access can be made in any clock, whatever hardware brings in it.
abbrev pub EachAccessIsCarried : Type 0
EachAccessIsCarried =
    (name : List ℕ) (m : Module) (face : LaidFace) → RegisterMeans name m face → (a : Access) → IsAccess a → (brought : Values) → InputsFit m brought → IsCarried m a brought
