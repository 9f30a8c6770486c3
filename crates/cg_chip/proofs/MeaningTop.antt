-- What the top's module does, by the laws of it: where requests come to, what a clock does, and what nets carry.
use Rattle.std.proofs.Common.{List, None, ◌∷◌, ◌≡◌}
use Rattle.cg_topspec.specs.Clashes.{clash_lists, first_clash}
use Rattle.cg_topspec.specs.Fits.{FitsTop}
use Rattle.cg_topspec.specs.Modules.{HasModules}
use Rattle.cg_topspec.specs.NetLaws.{ConnectionsHold, VectorsHold}
use Rattle.cg_topspec.specs.Select.{ErrorsAnswer, IsClock, SelectMeans}
use Rattle.cg_topspec.specs.Selection.{SelectionExists, StatesExist}
use Rattle.cg_topspec.specs.Ways.{RequestsCome}
use Rattle.cg_topspec.specs.WellFormed.{HasFewBits, TopModuleHasValuation}
use Rattle.cg_space.specs.Violations.{NoViolation}
use Rattle.cg_svspec.specs.Tree.{Module}
use Rattle.cg_chip.specs.Meaning.{AreBehind, ClocksExist, ClocksMean, NetsMean, RequestsReach, first_module}
use Rattle.cg_chip.specs.declared.chip.Chip.{Chip}

-- the laws of the top's module
pub record TopLaws : Type 0 where
  pub come : RequestsCome
  pub select : SelectMeans
  pub errors : ErrorsAnswer
  pub selection : SelectionExists
  pub states : StatesExist
  pub vectors : VectorsHold
  pub connections : ConnectionsHold
  pub valuation : TopModuleHasValuation

-- what they ask of a top
pub record MeetsLaws (c : Chip) : Type 0 where
  pub fits : FitsTop c.source.merged c.irq c.ties c.pins
  pub few : HasFewBits c.irq c.pins
  pub spaced : NoViolation c.source.merged
  pub no_clash : first_clash (clash_lists c.source.merged c.irq c.ties c.pins) ≡ None
  -- one list of modules behind the top's, and all others
  pub behind : List Module
  pub are_behind : AreBehind c behind
  pub modules : (ms : List Module) → AreBehind c ms → HasModules c.source.merged (first_module c ∷ ms)

module _ (laws : TopLaws) (c : Chip) (meets : MeetsLaws c) where
  pub requests_reach : RequestsReach c
  requests_reach ms are x h host request sized =
      laws.come c.source.merged c.irq c.ties c.pins ms meets.fits meets.spaced meets.no_clash (meets.modules ms are) x h host request sized

  pub clocks_mean : ClocksMean c
  clocks_mean ms are x h host request end inputs states v next sized selects = record {
    steps = λ i f z d interface stands face. laws.select c.source.merged c.irq c.ties c.pins ms x h request end inputs states v next clock i f z d interface stands face;
    errors = λ valid nothing e d answers. laws.errors c.source.merged c.irq c.ties c.pins ms x h request end inputs states v next clock valid nothing e d answers;
  } where
    clock : IsClock c.source.merged c.irq c.ties c.pins ms x h request end inputs states v next
    clock = record {
      fits = meets.fits;
      unbroken = meets.spaced;
      no_clash = meets.no_clash;
      modules = meets.modules ms are;
      host = host;
      sized = sized;
      selects = selects;
    }

  pub clocks_exist : (ms : List Module) → AreBehind c ms → ClocksExist c ms
  clocks_exist ms are = record {
    states = laws.states c.source.merged c.irq c.ties c.pins ms meets.fits (meets.modules ms are);
    clocks = λ x h host request sized brought states fit.
        laws.selection c.source.merged c.irq c.ties c.pins ms meets.fits meets.spaced meets.no_clash (meets.modules ms are) x h host request sized brought states fit;
  }

  pub nets_mean : NetsMean c
  nets_mean = record {
    vectors = λ inputs given v next valued. laws.vectors c.source.merged c.irq c.ties c.pins inputs given v next valued;
    connections = laws.connections c.source.merged c.irq c.ties c.pins meets.behind meets.fits meets.no_clash (meets.modules meets.behind meets.are_behind);
    valued = laws.valuation c.source.merged c.irq c.ties c.pins meets.fits meets.few meets.no_clash;
  }
