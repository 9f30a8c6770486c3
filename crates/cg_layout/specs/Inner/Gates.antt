-- What the gates of an interface's registers break, as a list.
use Rattle.std.specs.Prelude.{ℕ, Bool, false, ◌||◌, cond, List, [], ◌∷◌, Option, Some, None}
use Rattle.cg_desc.specs.declared.block.RegDesc.{RegDesc}
use Rattle.cg_desc.specs.declared.block.Item.{Item}
use Rattle.cg_desc.specs.declared.block.Item.TheVariants.{Reg, Window, SkipTo, Reserved}
use Rattle.cg_finding.specs.Finding.{Finding}
use Rattle.cg_finding.specs.Rules as rules
use Rattle.cg_desc.specs.Gates.{is_gate, register_among}
use Rattle.cg_layout.specs.Violations.{is_row}

-- the interface has a register or a window
abbrev pub has_row : List Item → Bool
has_row [] = false
has_row (item ∷ items) = is_row item || has_row items

-- what a register breaks whose gate has this name, where this register has the name
unfoldable pub faults_of_gate : RegDesc → List ℕ → Option RegDesc → List Finding
faults_of_gate r name None = rules.unknown_gate r.regwen_at name ∷ []
faults_of_gate r name (Some gate) = cond (is_gate gate) [] (rules.bad_gate r.regwen_at name ∷ [])

-- what a register breaks that has a gate of this name, or none
unfoldable pub faults_of_regwen : List Item → RegDesc → Option (List ℕ) → List Finding
faults_of_regwen items r None = []
faults_of_regwen items r (Some name) = faults_of_gate r name (register_among items name)

-- what an item breaks among the items of its interface
unfoldable pub gate_faults : List Item → Item → List Finding
gate_faults items (Reg r) = faults_of_regwen items r r.regwen
gate_faults items (Window w) = []
gate_faults items (SkipTo to at) = []
gate_faults items (Reserved words at) = []
