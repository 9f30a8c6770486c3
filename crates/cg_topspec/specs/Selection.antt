-- Clocks as the laws of steps take them exist.
use Rattle.std.specs.Prelude.{◌≡◌, ℕ, List, ◌∷◌, length, None}
use Rattle.cg_clkrst.specs.declared.tie.Tie.{Tie}
use Rattle.cg_desc.specs.declared.top.MergedTop.{MergedTop}
use Rattle.cg_irq.specs.declared.bits.IrqMap.{IrqMap}
use Rattle.cg_pinmux.specs.declared.map.PinMap.{PinMap}
use Rattle.cg_regspec.specs.Runs.{access_nets}
use Rattle.cg_space.specs.Rows.{IsMapHost}
use Rattle.cg_space.specs.Violations.{NoViolation}
use Rattle.cg_svspec.specs.Bits.{Bits}
use Rattle.cg_svspec.specs.Names.{Among}
use Rattle.cg_svspec.specs.Tree.{Module}
use Rattle.cg_svspec.specs.Value.{Values, HasWidths}
use Rattle.cg_svspec.specs.Walk.{End}
use Rattle.cg_topspec.specs.Clashes.{clash_lists, first_clash}
use Rattle.cg_topspec.specs.Fits.{FitsTop}
use Rattle.cg_topspec.specs.Modules.{HasModules}
use Rattle.cg_topspec.specs.Select.{InterfaceAt, Selects}
use Rattle.cg_topspec.specs.TopModule.{top_module}

-- the inputs and states at each device interface have the widths of its register module
abbrev pub HaveWidths : Module → List Module → (ℕ → ℕ → Values) → (ℕ → ℕ → Values) → Type 0
HaveWidths first ms inputs states = (i j : ℕ) (f : InterfaceAt first ms i j) → HasWidths f.is_face.registers (inputs i j) (states i j)

-- A clock with the request from these states, in which each device interface has its access at the inputs of an access, and what
-- hardware brings at all others.
pub record IsSelection (first : Module) (ms : List Module) (host : List ℕ) (request : Bits) (brought states : ℕ → ℕ → Values) : Type 0 where
  pub end : End
  pub inputs : ℕ → ℕ → Values
  pub v : ℕ → ℕ → Values
  pub next : ℕ → ℕ → Values
  pub selects : Selects first ms host request end inputs states v next
  pub others : (i j : ℕ) (f : InterfaceAt first ms i j) (n : List ℕ) → (Among n access_nets → ⊥) → inputs i j n ≡ brought i j n

-- there are inputs and states of their widths
pub record HasStates (first : Module) (ms : List Module) : Type 0 where
  pub inputs : ℕ → ℕ → Values
  pub states : ℕ → ℕ → Values
  pub have_widths : HaveWidths first ms inputs states

-- Each request of each host that stands for no crossbar can be made in a clock, from all states and whatever hardware brings.
abbrev pub SelectionExists : Type 0
SelectionExists =
    (m : MergedTop) (numbers : IrqMap) (ties : List Tie) (pins : PinMap) (ms : List Module) → FitsTop m numbers ties pins → NoViolation m
    → first_clash (clash_lists m numbers ties pins) ≡ None → HasModules m (top_module m numbers ties pins ∷ ms)
    → (x h : ℕ) (at : IsMapHost m x h) (request : Bits) → length request ≡ 70
    → (brought states : ℕ → ℕ → Values) → HaveWidths (top_module m numbers ties pins) ms brought states
    → IsSelection (top_module m numbers ties pins) ms at.host.name request brought states

-- and there are such states
abbrev pub StatesExist : Type 0
StatesExist =
    (m : MergedTop) (numbers : IrqMap) (ties : List Tie) (pins : PinMap) (ms : List Module) → FitsTop m numbers ties pins
    → HasModules m (top_module m numbers ties pins ∷ ms) → HasStates (top_module m numbers ties pins) ms
