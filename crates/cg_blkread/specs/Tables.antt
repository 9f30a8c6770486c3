-- The keys of a block's objects, with the forms of their values (OpenTitan Register Tool, register description keys).
use Rattle.std.specs.Prelude.{List, [], ◌∷◌, codes}
use Rattle.cg_keys.specs.Table.{Key, needs, may}
use Rattle.cg_keys.specs.declared.forms.Form.{Form}
use Rattle.cg_keys.specs.declared.forms.Form.TheVariants.{Text, Name, ParameterName, Number, Boolean, Items, Object, Word}
use Rattle.cg_keys.specs.declared.words.Words.TheVariants.{Software, Hardware, WindowAccess, Direction, InterruptType, Unknown}

-- a number of 32 bits
abbrev pub word_number : Form
word_number = Number 0 4294967295

abbrev pub block_keys : List Key
block_keys =
    needs (codes "name") (Name ∷ [])
    ∷ needs (codes "clocking") (Items ∷ [])
    ∷ needs (codes "bus_interfaces") (Items ∷ [])
    ∷ needs (codes "registers") (Items ∷ Object ∷ [])
    ∷ may (codes "interrupt_list") (Items ∷ [])
    ∷ may (codes "alert_list") (Items ∷ [])
    ∷ may (codes "no_auto_intr_regs") (Boolean ∷ [])
    ∷ may (codes "no_auto_alert_regs") (Boolean ∷ [])
    ∷ may (codes "param_list") (Items ∷ [])
    ∷ may (codes "regwidth") (word_number ∷ [])
    ∷ may (codes "available_input_list") (Items ∷ [])
    ∷ may (codes "available_output_list") (Items ∷ [])
    ∷ may (codes "available_inout_list") (Items ∷ [])
    ∷ []

abbrev pub clocking_keys : List Key
clocking_keys = needs (codes "clock") (Name ∷ []) ∷ may (codes "reset") (Name ∷ []) ∷ []

abbrev pub interface_keys : List Key
interface_keys =
    needs (codes "protocol") (Text ∷ [])
    ∷ needs (codes "direction") (Word Direction ∷ [])
    ∷ may (codes "name") (Name ∷ [])
    ∷ []

abbrev pub interrupt_keys : List Key
interrupt_keys =
    needs (codes "name") (Name ∷ [])
    ∷ may (codes "type") (Word InterruptType ∷ [])
    ∷ may (codes "width") (Number 1 32 ∷ [])
    ∷ []

abbrev pub alert_keys : List Key
alert_keys = needs (codes "name") (Name ∷ []) ∷ []

abbrev pub parameter_keys : List Key
parameter_keys = needs (codes "name") (ParameterName ∷ []) ∷ may (codes "default") (word_number ∷ Text ∷ []) ∷ []

abbrev pub pin_keys : List Key
pin_keys = needs (codes "name") (Name ∷ []) ∷ may (codes "width") (Number 1 64 ∷ []) ∷ []

abbrev pub register_keys : List Key
register_keys =
    needs (codes "name") (Name ∷ [])
    ∷ may (codes "swaccess") (Word Software ∷ [])
    ∷ may (codes "hwaccess") (Word Hardware ∷ [])
    ∷ may (codes "hwext") (Boolean ∷ [])
    ∷ may (codes "hwqe") (Boolean ∷ [])
    ∷ may (codes "hwre") (Boolean ∷ [])
    ∷ may (codes "shadowed") (Boolean ∷ [])
    ∷ may (codes "regwen") (Text ∷ [])
    ∷ may (codes "resval") (word_number ∷ Boolean ∷ [])
    ∷ needs (codes "fields") (Items ∷ [])
    ∷ []

-- the keys of a multireg beside those of a register
abbrev pub copy_keys : List Key
copy_keys =
    needs (codes "count") (word_number ∷ ParameterName ∷ [])
    ∷ may (codes "cname") (Text ∷ [])
    ∷ may (codes "regwen_multi") (Boolean ∷ [])
    ∷ may (codes "compact") (Boolean ∷ [])
    ∷ []

abbrev pub window_keys : List Key
window_keys =
    needs (codes "name") (Name ∷ [])
    ∷ needs (codes "items") (word_number ∷ ParameterName ∷ [])
    ∷ may (codes "byte-write") (Boolean ∷ [])
    ∷ may (codes "swaccess") (Word WindowAccess ∷ [])
    ∷ []

abbrev pub field_keys : List Key
field_keys =
    needs (codes "bits") (Text ∷ word_number ∷ [])
    ∷ may (codes "name") (Name ∷ [])
    ∷ may (codes "swaccess") (Word Software ∷ [])
    ∷ may (codes "hwaccess") (Word Hardware ∷ [])
    ∷ may (codes "resval") (word_number ∷ Boolean ∷ Word Unknown ∷ [])
    ∷ may (codes "mubi") (Boolean ∷ [])
    ∷ []
