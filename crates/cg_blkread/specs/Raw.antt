-- Entries as they are written, with the names, kinds and numbers that count.
use Rattle.std.specs.Prelude.{ℕ, ◌+◌, ◌==◌, Bool, true, false, not, ◌&&◌, cond, List, [], ◌∷◌, ◌++◌, map, length, codes, decimal, Option, Some, None, option_and_then, unwrap_or}
use Rattle.std.specs.Option.{option_map_or}
use Rattle.std.specs.Str.{bytes_eq}
use Rattle.cg_desc.specs.declared.block.SwAccess.{SwAccess}
use Rattle.cg_desc.specs.declared.block.SwAccess.TheVariants as software
use Rattle.cg_desc.specs.declared.block.HwAccess.{HwAccess}
use Rattle.cg_desc.specs.declared.block.HwAccess.TheVariants as hardware
use Rattle.cg_hjson.specs.declared.tree.Tree.{Tree}
use Rattle.cg_hjson.specs.declared.tree.Member.{Member}
use Rattle.cg_keys.specs.Values.{members_of}
use Rattle.cg_keys.specs.Forms.{number_within}
use Rattle.cg_keys.specs.Table.{value_at}
use Rattle.cg_keys.specs.Elements.{elements}
use Rattle.cg_keys.specs.Lookups.{text_at, boolean_at, number_at, software_at, hardware_at, window_access_at, place_at}
use Rattle.cg_blkread.specs.Bits.{bits_in}
use Rattle.cg_blkread.specs.declared.raw.RawField.{RawField}
use Rattle.cg_blkread.specs.declared.raw.RawRegister.{RawRegister}
use Rattle.cg_blkread.specs.declared.raw.RawMultireg.{RawMultireg}
use Rattle.cg_blkread.specs.declared.raw.RawWindow.{RawWindow}
use Rattle.cg_blkread.specs.declared.raw.RawEntry.{RawEntry}
use Rattle.cg_blkread.specs.declared.raw.RawEntry.TheVariants as entry

abbrev pub text_or_empty : Option (List ℕ) → List ℕ
text_or_empty text = unwrap_or text []

abbrev pub is_true : List ℕ → List Member → Bool
is_true key ms = unwrap_or (boolean_at key ms) false

-- ---- parameters

-- a parameter's name, and its default where that is a number
pub record Parameter : Type 0 where
  pub name : List ℕ
  pub number : Option ℕ

unfoldable pub parameter_of : Tree → Parameter
parameter_of t = record { name = text_or_empty (text_at (codes "name") (members_of t)); number = number_at 0 4294967295 (codes "default") (members_of t) }

unfoldable pub parameters : List Member → List Parameter
parameters ms = map parameter_of (elements (codes "param_list") ms)

-- The number of the first parameter of the name: it hides later ones, also where it has no number.
unfoldable pub parameter_number : List Parameter → List ℕ → Option ℕ
parameter_number [] name = None
parameter_number (p ∷ ps) name = cond (bytes_eq p.name name) p.number (parameter_number ps name)

abbrev pub number_or_parameter : List Parameter → Option ℕ → Option (List ℕ) → Option ℕ
number_or_parameter ps (Some n) name = Some n
number_or_parameter ps None name = option_and_then (parameter_number ps) name

-- the number at a key, or that of the parameter which is named there
unfoldable pub count_at : List Parameter → List ℕ → List Member → Option ℕ
count_at ps key ms = number_or_parameter ps (number_at 0 4294967295 key ms) (text_at key ms)

-- ---- fields

-- a field without a name has that of its register where it is the only one, and else `field<N>` with its place, from 1
abbrev pub filled_name : Option (List ℕ) → List ℕ → Bool → ℕ → List ℕ
filled_name (Some name) register sole number = name
filled_name None register sole number = cond sole register (codes "field" ++ decimal number)

-- true and false as reset values: 1 and 0, and 6 and 9 of a multi-bit boolean
abbrev pub boolean_reset : Bool → Bool → ℕ
boolean_reset mubi b = cond mubi (cond b 6 9) (cond b 1 0)

abbrev pub boolean_or_number : Bool → Option Bool → Option ℕ → Option ℕ
boolean_or_number mubi (Some b) n = Some (boolean_reset mubi b)
boolean_or_number mubi None n = n

-- the reset value of a register: a number or a boolean
unfoldable pub register_reset : List Member → Option ℕ
register_reset ms = boolean_or_number false (boolean_at (codes "resval") ms) (number_at 0 4294967295 (codes "resval") ms)

-- a field's own reset value: a number, a boolean, or `x`, which is 0
unfoldable pub field_reset : Bool → List Member → Option ℕ
field_reset mubi ms =
    cond (option_map_or (bytes_eq (codes "x")) (text_at (codes "resval") ms) false) (Some 0)
    (boolean_or_number mubi (boolean_at (codes "resval") ms) (number_at 0 4294967295 (codes "resval") ms))

-- what a field takes from its register
pub record Shared : Type 0 where
  pub name : List ℕ
  pub sw : SwAccess
  pub hw : HwAccess
  pub sole : Bool

-- the field that stands at this place of the list, from 1
unfoldable pub raw_field : Shared → ℕ → Tree → RawField
raw_field shared number t =
    let ms = members_of t in
    record {
      name = filled_name (text_at (codes "name") ms) shared.name shared.sole number;
      bits = option_and_then bits_in (value_at (codes "bits") ms);
      bits_at = place_at (codes "bits") ms t.at;
      sw = unwrap_or (software_at (codes "swaccess") ms) shared.sw;
      hw = unwrap_or (hardware_at (codes "hwaccess") ms) shared.hw;
      resval = field_reset (is_true (codes "mubi") ms) ms;
      resval_at = place_at (codes "resval") ms t.at;
      mubi = is_true (codes "mubi") ms;
      at = place_at (codes "name") ms (place_at (codes "bits") ms t.at);
    }

abbrev pub raw_fields : Shared → ℕ → List Tree → List RawField
raw_fields shared number [] = []
raw_fields shared number (t ∷ ts) = raw_field shared number t ∷ raw_fields shared (number + 1) ts

-- ---- entries

unfoldable pub shared_of : List Member → Shared
shared_of ms = record {
  name = text_or_empty (text_at (codes "name") ms);
  sw = unwrap_or (software_at (codes "swaccess") ms) software.Nothing;
  hw = unwrap_or (hardware_at (codes "hwaccess") ms) hardware.Hro;
  sole = length (elements (codes "fields") ms) == 1;
}

unfoldable pub raw_register : Tree → RawRegister
raw_register t =
    let ms = members_of t in
    record {
      name = text_or_empty (text_at (codes "name") ms);
      fields = raw_fields (shared_of ms) 1 (elements (codes "fields") ms);
      fields_at = place_at (codes "fields") ms t.at;
      resval = register_reset ms;
      resval_at = place_at (codes "resval") ms t.at;
      regwen = text_at (codes "regwen") ms;
      regwen_at = place_at (codes "regwen") ms t.at;
      hwext = is_true (codes "hwext") ms;
      hwqe = is_true (codes "hwqe") ms;
      hwre = is_true (codes "hwre") ms;
      shadowed = is_true (codes "shadowed") ms;
      at = place_at (codes "name") ms t.at;
    }

-- Copies of one field are compacted, unless they have gates of their own or `compact` is false.
unfoldable pub is_compact : List Member → Bool
is_compact ms =
    (length (elements (codes "fields") ms) == 1) && (not (is_true (codes "regwen_multi") ms) && unwrap_or (boolean_at (codes "compact") ms) true)

unfoldable pub raw_multireg : List Parameter → Tree → RawMultireg
raw_multireg ps t =
    let ms = members_of t in
    record {
      register = raw_register t;
      count = count_at ps (codes "count") ms;
      count_at = place_at (codes "count") ms t.at;
      compact = is_compact ms;
      regwen_multi = is_true (codes "regwen_multi") ms;
    }

unfoldable pub raw_window : List Parameter → Tree → RawWindow
raw_window ps t =
    let ms = members_of t in
    record {
      name = text_or_empty (text_at (codes "name") ms);
      items = count_at ps (codes "items") ms;
      items_at = place_at (codes "items") ms t.at;
      byte_write = is_true (codes "byte-write") ms;
      sw = unwrap_or (window_access_at (codes "swaccess") ms) software.Rw;
      at = place_at (codes "name") ms t.at;
    }

abbrev pub number_or_zero : Tree → ℕ
number_or_zero t = unwrap_or (number_within 0 4294967295 t) 0

-- an entry is known by its key, of which the first in this order counts; else it is a register
unfoldable pub raw_entry : List Parameter → Tree → RawEntry
raw_entry ps t =
    let ms = members_of t in
    option_map_or (λ m. entry.Multireg (raw_multireg ps m)) (value_at (codes "multireg") ms)
    (option_map_or (λ w. entry.Window (raw_window ps w)) (value_at (codes "window") ms)
    (option_map_or (λ s. entry.SkipTo (number_or_zero s) s.at) (value_at (codes "skipto") ms)
    (option_map_or (λ r. entry.Reserved (number_or_zero r) r.at) (value_at (codes "reserved") ms)
    (entry.Register (raw_register t)))))
