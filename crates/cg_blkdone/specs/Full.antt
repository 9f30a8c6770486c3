-- A block's description with everything said: what is known has its plain form, and what has a default is there. Unknown keys stay.
use Rattle.std.specs.Prelude.{ℕ, ◌+◌, ◌++◌, List, [], ◌∷◌, map, codes, Option, Some, None, option_map, unwrap_or}
use Rattle.std.specs.Fmt.{decimal}
use Rattle.std.specs.Option.{option_map_or}
use Rattle.serde_json.specs.Data.{Data, unsigned, boolean, number, string, array, object, put}
use Rattle.serde_json.specs.Data as json
use Rattle.serde_json.specs.View.{items_of as json_items}
use Rattle.cg_desc.specs.declared.block.SwAccess.{SwAccess}
use Rattle.cg_desc.specs.declared.block.SwAccess.TheVariants as software
use Rattle.cg_desc.specs.declared.block.HwAccess.{HwAccess}
use Rattle.cg_desc.specs.declared.block.HwAccess.TheVariants as hardware
use Rattle.cg_hjson.specs.Json.{json_of}
use Rattle.cg_hjson.specs.Views.{tree_of}
use Rattle.cg_hjson.specs.declared.tree.Tree.{Tree}
use Rattle.cg_hjson.specs.declared.tree.Member.{Member}
use Rattle.cg_keys.specs.Elements.{elements}
use Rattle.cg_keys.specs.Lookups.{number_at, text_at, window_access_at}
use Rattle.cg_keys.specs.Table.{value_at}
use Rattle.cg_keys.specs.Values.{items_of, members_of, object_in}
use Rattle.cg_blkread.specs.Described.{field_desc, no_bits}
use Rattle.cg_blkread.specs.Raw.{is_compact, is_true, number_or_zero, raw_field, register_reset, shared_of, Shared}
use Rattle.cg_blkread.specs.declared.raw.Bits.{Bits}
use Rattle.cg_blkread.specs.declared.raw.RawField.{RawField}

-- ---- JSON values of plain form

abbrev pub number_of : ℕ → Data
number_of n = number (unsigned n)

abbrev pub list_of : List Data → Data
list_of ds = array (json_items ds)

-- the words of the kinds of access
unfoldable pub software_word : SwAccess → List ℕ
software_word software.Ro = codes "ro"
software_word software.Rc = codes "rc"
software_word software.Rw = codes "rw"
software_word software.R0w1c = codes "r0w1c"
software_word software.Rw1s = codes "rw1s"
software_word software.Rw1c = codes "rw1c"
software_word software.Rw0c = codes "rw0c"
software_word software.Wo = codes "wo"
software_word software.Nothing = codes "none"

unfoldable pub hardware_word : HwAccess → List ℕ
hardware_word hardware.Hro = codes "hro"
hardware_word hardware.Hrw = codes "hrw"
hardware_word hardware.Hwo = codes "hwo"
hardware_word hardware.Nothing = codes "none"

-- bits as `m:l`, also where they are one
unfoldable pub bits_text : Bits → List ℕ
bits_text b = decimal b.msb ++ (codes ":" ++ decimal b.lsb)

-- ---- objects

-- a key with its value
pub record Pair : Type 0 where
  pub key : List ℕ
  pub value : Data

abbrev pub pair : List ℕ → Data → Pair
pair key value = record { key = key; value = value }

-- a key whose value may be missing
abbrev pub pair_if : List ℕ → Option Data → List Pair
pair_if key None = []
pair_if key (Some d) = pair key d ∷ []

-- members with these values at these keys
abbrev pub put_all : List Pair → json.Members → json.Members
put_all [] ms = ms
put_all (p ∷ ps) ms = put_all ps (put p.key p.value ms)

unfoldable pub with_all : List Pair → Data → Data
with_all ps (object ms) = object (put_all ps ms)
with_all ps d = d

-- what a value says, with these values at these keys in place of its own
abbrev pub said_with : List Pair → Tree → Data
said_with ps t = with_all ps (json_of (tree_of t))

-- a number where the value at a key is one; a parameter's name stays
abbrev pub number_if : List ℕ → List Member → List Pair
number_if key ms = pair_if key (option_map number_of (number_at 0 4294967295 key ms))

-- ---- fields

-- the reset value that a field has: its own, or its bits of its register's, or 0
abbrev pub reset_of : Option ℕ → RawField → ℕ
reset_of register_resval f = (field_desc register_resval f).resval

unfoldable pub field_pairs : Option ℕ → RawField → List Pair
field_pairs register_resval f =
    pair (codes "bits") (string (bits_text (unwrap_or f.bits no_bits)))
    ∷ pair (codes "name") (string f.name)
    ∷ pair (codes "swaccess") (string (software_word f.sw))
    ∷ pair (codes "hwaccess") (string (hardware_word f.hw))
    ∷ pair (codes "resval") (number_of (reset_of register_resval f))
    ∷ pair (codes "mubi") (boolean f.mubi)
    ∷ []

-- the fields of a register, of which the first has this number
unfoldable pub full_fields : Shared → Option ℕ → ℕ → List Tree → List Data
full_fields shared register_resval n [] = []
full_fields shared register_resval n (t ∷ ts) =
    said_with (field_pairs register_resval (raw_field shared n t)) t ∷ full_fields shared register_resval (n + 1) ts

-- ---- entries

-- the reset value of a register, where it has one
abbrev pub reset_if : List Member → List Pair
reset_if ms = pair_if (codes "resval") (option_map number_of (register_reset ms))

unfoldable pub register_pairs : List Member → List Pair
register_pairs ms =
    pair (codes "swaccess") (string (software_word (shared_of ms).sw))
    ∷ pair (codes "hwaccess") (string (hardware_word (shared_of ms).hw))
    ∷ pair (codes "hwext") (boolean (is_true (codes "hwext") ms))
    ∷ pair (codes "hwqe") (boolean (is_true (codes "hwqe") ms))
    ∷ pair (codes "hwre") (boolean (is_true (codes "hwre") ms))
    ∷ pair (codes "shadowed") (boolean (is_true (codes "shadowed") ms))
    ∷ pair (codes "fields") (list_of (full_fields (shared_of ms) (register_reset ms) 1 (elements (codes "fields") ms)))
    ∷ reset_if ms

abbrev pub full_register : Tree → Data
full_register t = said_with (register_pairs (members_of t)) t

-- the keys of a multireg beside those of a register
unfoldable pub copy_pairs : List Member → List Pair
copy_pairs ms =
    pair (codes "regwen_multi") (boolean (is_true (codes "regwen_multi") ms))
    ∷ pair (codes "compact") (boolean (is_compact ms))
    ∷ number_if (codes "count") ms

abbrev pub full_multireg : Tree → Data
full_multireg t = said_with (register_pairs (members_of t) ++ copy_pairs (members_of t)) t

unfoldable pub window_pairs : List Member → List Pair
window_pairs ms =
    pair (codes "byte-write") (boolean (is_true (codes "byte-write") ms))
    ∷ pair (codes "swaccess") (string (software_word (unwrap_or (window_access_at (codes "swaccess") ms) software.Rw)))
    ∷ number_if (codes "items") ms

abbrev pub full_window : Tree → Data
full_window t = said_with (window_pairs (members_of t)) t

-- an entry is known by its key, of which the first in this order counts; else it is a register
unfoldable pub full_entry : Tree → Data
full_entry t =
    option_map_or (λ m. said_with (pair (codes "multireg") (full_multireg m) ∷ []) t) (value_at (codes "multireg") (members_of t))
    (option_map_or (λ w. said_with (pair (codes "window") (full_window w) ∷ []) t) (value_at (codes "window") (members_of t))
    (option_map_or (λ s. said_with (pair (codes "skipto") (number_of (number_or_zero s)) ∷ []) t) (value_at (codes "skipto") (members_of t))
    (option_map_or (λ r. said_with (pair (codes "reserved") (number_of (number_or_zero r)) ∷ []) t) (value_at (codes "reserved") (members_of t))
    (full_register t))))

-- a list of entries
abbrev pub full_entries : Tree → Data
full_entries t = list_of (map full_entry (items_of t))

-- the lists of the interfaces, by their names
abbrev pub entries_pairs : List Member → List Pair
entries_pairs ms = map (λ m. pair m.key (full_entries m.value)) ms

-- a list of entries, or an object of such lists
abbrev pub lists_in : Tree → Option (List Member) → Data
lists_in t None = full_entries t
lists_in t (Some ms) = said_with (entries_pairs ms) t

unfoldable pub full_lists : Option Tree → List Pair
full_lists None = []
full_lists (Some t) = pair (codes "registers") (lists_in t (object_in t)) ∷ []

-- ---- the block

unfoldable pub full_interrupt : Tree → Data
full_interrupt t =
    said_with (pair (codes "type") (string (unwrap_or (text_at (codes "type") (members_of t)) (codes "event")))
    ∷ pair (codes "width") (number_of (unwrap_or (number_at 0 4294967295 (codes "width") (members_of t)) 1)) ∷ []) t

unfoldable pub full_alert : Tree → Data
full_alert t = json_of (tree_of t)

unfoldable pub full_parameter : Tree → Data
full_parameter t = said_with (number_if (codes "default") (members_of t)) t

unfoldable pub full_pin : Tree → Data
full_pin t = said_with (pair (codes "width") (number_of (unwrap_or (number_at 0 4294967295 (codes "width") (members_of t)) 1)) ∷ []) t

-- the list at a key, which is empty by default
abbrev pub list_pair : List ℕ → (Tree → Data) → List Member → Pair
list_pair key full ms = pair key (list_of (map full (elements key ms)))

unfoldable pub block_pairs : List Member → List Pair
block_pairs ms =
    list_pair (codes "interrupt_list") full_interrupt ms
    ∷ list_pair (codes "alert_list") full_alert ms
    ∷ pair (codes "no_auto_intr_regs") (boolean (is_true (codes "no_auto_intr_regs") ms))
    ∷ pair (codes "no_auto_alert_regs") (boolean (is_true (codes "no_auto_alert_regs") ms))
    ∷ list_pair (codes "param_list") full_parameter ms
    ∷ pair (codes "regwidth") (number_of 32)
    ∷ list_pair (codes "available_input_list") full_pin ms
    ∷ list_pair (codes "available_output_list") full_pin ms
    ∷ list_pair (codes "available_inout_list") full_pin ms
    ∷ full_lists (value_at (codes "registers") ms)

-- the description of a block that breaks no rule, with everything said
unfoldable pub full_block : Tree → Data
full_block t = said_with (block_pairs (members_of t)) t
