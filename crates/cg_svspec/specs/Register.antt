-- Register modules, and what a valuation of one shows.
use Rattle.std.specs.Prelude.{◌≡◌, ℕ, ◌≤◌, true, false, List, [], ◌∷◌, ◌++◌, codes, Option, Some}
use Rattle.std.specs.Str.{bytes_eq}
use Rattle.cg_svspec.specs.Tree.{Expression, lit, Port, Entry, inst, Module}
use Rattle.cg_svspec.specs.Printable.{AllOf}
use Rattle.cg_svspec.specs.Value.{Values, Valuation, IsReset, StatesFit, OutputsFit, HasWidths, parameter_at, flop_name}
use Rattle.cg_svspec.specs.WellFormed.{WellFormed}

abbrev pub input_port : ℕ → List ℕ → Port
input_port w n = record { input = true; width = w; name = n }

abbrev pub output_port : ℕ → List ℕ → Port
output_port w n = record { input = false; width = w; name = n }

-- the first nine ports of every register module
abbrev pub access_ports : List Port
access_ports =
    input_port 1 (codes "clk_i") ∷ input_port 1 (codes "rst_ni") ∷ input_port 1 (codes "reg_we") ∷ input_port 1 (codes "reg_re")
    ∷ input_port 32 (codes "reg_addr") ∷ input_port 32 (codes "reg_wdata") ∷ input_port 4 (codes "reg_be")
    ∷ output_port 32 (codes "reg_rdata") ∷ output_port 1 (codes "reg_error") ∷ []

-- at most 32 bits, where the parameter is a number
abbrev pub IsNarrow : Option Expression → Type 0
IsNarrow (Some (lit z w)) = w ≤ 32
IsNarrow _ = ⊥

-- no instance but of prim_flop, whose state has at most 32 bits
abbrev pub IsRegisterEntry : Entry → Type 0
IsRegisterEntry (inst m ps n cs) = (bytes_eq m flop_name ≡ true) × IsNarrow (parameter_at (codes "Width") ps)
IsRegisterEntry _ = Unit {0}

pub record IsRegister (m : Module) : Type 0 where
  pub others : List Port
  pub ports : m.ports ≡ access_ports ++ others
  pub narrow : AllOf (λ p. p.width ≤ 32) others
  pub entries : AllOf IsRegisterEntry m.entries

-- A well-formed register module has a valuation for all inputs and states of their widths.
abbrev pub RegisterHasValuation : Type 0
RegisterHasValuation =
    (m : Module) → WellFormed m → IsRegister m → (inputs state : Values) → HasWidths m inputs state
    → (v : Values) × (next : Values) × Valuation m inputs state v next

-- It has states at reset; states at reset have their widths; and so have the outputs, and the states after a clock.
pub record KeepsWidths (m : Module) : Type 0 where
  pub reset_exists : (state : Values) × IsReset m state
  pub reset_fits : (state : Values) → IsReset m state → StatesFit m state
  pub outputs_fit : (inputs state v next : Values) → HasWidths m inputs state → Valuation m inputs state v next → OutputsFit m v
  pub next_fits : (inputs state v next : Values) → HasWidths m inputs state → Valuation m inputs state v next → StatesFit m next

abbrev pub RegisterKeepsWidths : Type 0
RegisterKeepsWidths = (m : Module) → WellFormed m → IsRegister m → KeepsWidths m
