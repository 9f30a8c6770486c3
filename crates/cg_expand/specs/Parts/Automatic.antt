-- The automatic registers, with their fields or without.
use Rattle.std.specs.Prelude.{ℕ, nat_le, Bool, true, false, ◌&&◌, cond, List, [], ◌∷◌, ◌++◌, length, codes}
use Rattle.cg_desc.specs.declared.block.SwAccess.{SwAccess}
use Rattle.cg_desc.specs.declared.block.SwAccess.TheVariants.{Rw, Wo}
use Rattle.cg_desc.specs.declared.block.HwAccess.{HwAccess}
use Rattle.cg_desc.specs.declared.block.HwAccess.TheVariants.{Hro, Hrw}
use Rattle.cg_desc.specs.declared.block.IntrDesc.{IntrDesc}
use Rattle.cg_desc.specs.declared.block.Item.{Item}
use Rattle.cg_desc.specs.declared.block.Item.TheVariants.{Reg}
use Rattle.cg_desc.specs.declared.block.BlockDesc.{BlockDesc}
use Rattle.cg_desc.specs.Items.{alert_fields, automatic_register, has_some, interrupt_fields, state_access}
use Rattle.cg_expand.specs.Violations.{interrupt_bits}
use Rattle.cg_expand.specs.declared.automatic.Use.{Use}
use Rattle.cg_expand.specs.declared.automatic.Use.TheVariants.{Enable, State, Test}

-- a word has room for the bits of all interrupts, and one for all alerts
unfoldable pub has_room : BlockDesc → Bool
has_room b = nat_le (interrupt_bits b) 32 && nat_le (length b.alerts) 32

-- how software and hardware access the field of an interrupt
abbrev pub software_of : Use → IntrDesc → SwAccess
software_of State = state_access
software_of Enable = λ i. Rw
software_of Test = λ i. Wo

abbrev pub hardware_of : Use → HwAccess
hardware_of State = Hrw
hardware_of Enable = Hro
hardware_of Test = Hro

-- the register's fields are not stored
abbrev pub is_external : Use → Bool
is_external State = false
is_external Enable = false
is_external Test = true

-- a register of the interrupts, with its fields where they are wanted
abbrev pub interrupt_register : List ℕ → Use → Bool → BlockDesc → Item
interrupt_register name reason wanted b =
    Reg (automatic_register name (cond wanted (interrupt_fields (software_of reason) (hardware_of reason) 0 b.intrs) []) (is_external reason) b.intrs_at)

-- all three
abbrev pub interrupt_registers : Bool → BlockDesc → List Item
interrupt_registers wanted b =
    interrupt_register (codes "INTR_STATE") State wanted b
    ∷ interrupt_register (codes "INTR_ENABLE") Enable wanted b
    ∷ interrupt_register (codes "INTR_TEST") Test wanted b
    ∷ []

-- the register of the alerts, with its fields where they are wanted
abbrev pub alert_registers : Bool → BlockDesc → List Item
alert_registers wanted b = Reg (automatic_register (codes "ALERT_TEST") (cond wanted (alert_fields 0 b.alerts) []) true b.alerts_at) ∷ []

-- the automatic registers, with their fields where they are wanted
unfoldable pub automatic_with : Bool → BlockDesc → List Item
automatic_with wanted b =
    cond (b.auto_intr && has_some b.intrs) (interrupt_registers wanted b) [] ++ cond (b.auto_alert && has_some b.alerts) (alert_registers wanted b) []
