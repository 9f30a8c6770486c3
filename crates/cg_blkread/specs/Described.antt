-- The description of a block that breaks no rule.
use Rattle.std.specs.Prelude.{ℕ, ◌+◌, ◌-◌, ◌^◌, ◌/◌, ◌%◌, false, not, nat_lt, cond, List, [], ◌∷◌, ◌++◌, map, codes, Option, Some, None, unwrap_or}
use Rattle.std.specs.Option.{option_map_or}
use Rattle.std.specs.Str.{bytes_eq}
use Rattle.cg_desc.specs.declared.block.FieldDesc.{FieldDesc}
use Rattle.cg_desc.specs.declared.block.RegDesc.{RegDesc}
use Rattle.cg_desc.specs.declared.block.Written.{Written}
use Rattle.cg_desc.specs.declared.block.Written.TheVariants as written
use Rattle.cg_desc.specs.declared.block.FaceDesc.{FaceDesc}
use Rattle.cg_desc.specs.declared.block.ClockDesc.{ClockDesc}
use Rattle.cg_desc.specs.declared.block.IntrDesc.{IntrDesc}
use Rattle.cg_desc.specs.declared.block.AlertDesc.{AlertDesc}
use Rattle.cg_desc.specs.declared.block.IoDesc.{IoDesc}
use Rattle.cg_desc.specs.declared.block.IoDir.{IoDir}
use Rattle.cg_desc.specs.declared.block.IoDir.TheVariants.{In, Out, InOut}
use Rattle.cg_desc.specs.declared.block.BlockDesc.{BlockDesc}
use Rattle.cg_hjson.specs.declared.tree.Tree.{Tree}
use Rattle.cg_hjson.specs.declared.tree.Member.{Member}
use Rattle.cg_keys.specs.Values.{object_in, items_of, members_of}
use Rattle.cg_keys.specs.Table.{value_at}
use Rattle.cg_keys.specs.Elements.{elements}
use Rattle.cg_keys.specs.Lookups.{text_at, number_at, place_at}
use Rattle.cg_blkread.specs.Interfaces.{devices, hosts, interface_name}
use Rattle.cg_blkread.specs.Raw.{text_or_empty, is_true, Parameter, parameters, raw_entry}
use Rattle.cg_blkread.specs.declared.raw.Bits.{Bits}
use Rattle.cg_blkread.specs.declared.raw.RawField.{RawField}
use Rattle.cg_blkread.specs.declared.raw.RawRegister.{RawRegister}
use Rattle.cg_blkread.specs.declared.raw.RawEntry.{RawEntry}
use Rattle.cg_blkread.specs.declared.raw.RawEntry.TheVariants as entry

-- ---- fields

abbrev pub no_bits : Bits
no_bits = record { msb = 0; lsb = 0 }

-- the bits of a register's reset value that are a field's
abbrev pub field_part : ℕ → Bits → ℕ
field_part value b = (value / 2 ^ b.lsb) % 2 ^ (b.msb - b.lsb + 1)

-- a field takes its own reset value, or its bits of its register's, or 0
unfoldable pub field_desc : Option ℕ → RawField → FieldDesc
field_desc register_resval f =
    let bits = unwrap_or f.bits no_bits in
    record {
      name = f.name;
      msb = bits.msb;
      lsb = bits.lsb;
      sw = f.sw;
      hw = f.hw;
      resval = unwrap_or f.resval (option_map_or (λ v. field_part v bits) register_resval 0);
      mubi = f.mubi;
      at = f.at;
    }

-- the field in front of the first one that begins above it
unfoldable pub put_field : FieldDesc → List FieldDesc → List FieldDesc
put_field f [] = f ∷ []
put_field f (g ∷ gs) = cond (nat_lt f.lsb g.lsb) (f ∷ g ∷ gs) (g ∷ put_field f gs)

-- the fields in the order of their lowest bits: the one rising order of the fields, as a law says
unfoldable pub in_bit_order : List FieldDesc → List FieldDesc
in_bit_order [] = []
in_bit_order (f ∷ fs) = put_field f (in_bit_order fs)

-- ---- entries

unfoldable pub register_desc : RawRegister → RegDesc
register_desc r = record {
  name = r.name;
  fields = in_bit_order (map (field_desc r.resval) r.fields);
  regwen = r.regwen;
  regwen_at = r.regwen_at;
  hwext = r.hwext;
  hwqe = r.hwqe;
  hwre = r.hwre;
  shadowed = r.shadowed;
  at = r.at;
}

unfoldable pub written_entry : RawEntry → Written
written_entry (entry.Register r) = written.Reg (register_desc r)
written_entry (entry.Multireg m) =
    written.Multi (record { reg = register_desc m.register; count = unwrap_or m.count 0; compact = m.compact; regwen_multi = m.regwen_multi })
written_entry (entry.Window w) =
    written.Window (record { name = w.name; items = unwrap_or w.items 0; byte_write = w.byte_write; sw = w.sw; at = w.at })
written_entry (entry.SkipTo to at) = written.SkipTo to at
written_entry (entry.Reserved words at) = written.Reserved words at

-- ---- interfaces

-- the list of an interface's entries: the whole of `registers`, or its member of the interface's name
abbrev pub list_in : Tree → Option (List ℕ) → Option (List Member) → Option Tree
list_in t name None = Some t
list_in t None (Some ms) = None
list_in t (Some name) (Some ms) = value_at name ms

abbrev pub list_of_value : Option Tree → Option (List ℕ) → Option Tree
list_of_value None name = None
list_of_value (Some t) name = list_in t name (object_in t)

unfoldable pub entry_list_of : List Member → Tree → Option Tree
entry_list_of ms d = list_of_value (value_at (codes "registers") ms) (interface_name d)

abbrev pub entries_in : List Parameter → Option Tree → List Written
entries_in ps None = []
entries_in ps (Some t) = map (λ e. written_entry (raw_entry ps e)) (items_of t)

unfoldable pub face_desc : List Member → Tree → FaceDesc
face_desc ms d = record {
  name = interface_name d;
  entries = entries_in (parameters ms) (entry_list_of ms d);
  at = option_map_or (λ t. t.at) (entry_list_of ms d) d.at;
}

-- ---- the block

unfoldable pub clock_desc : Tree → ClockDesc
clock_desc t = record { clock = text_or_empty (text_at (codes "clock") (members_of t)); reset = text_at (codes "reset") (members_of t) }

unfoldable pub interrupt_desc : Tree → IntrDesc
interrupt_desc t = record {
  name = text_or_empty (text_at (codes "name") (members_of t));
  width = unwrap_or (number_at 0 4294967295 (codes "width") (members_of t)) 1;
  status = option_map_or (bytes_eq (codes "status")) (text_at (codes "type") (members_of t)) false;
  at = place_at (codes "name") (members_of t) t.at;
}

unfoldable pub alert_desc : Tree → AlertDesc
alert_desc t = record { name = text_or_empty (text_at (codes "name") (members_of t)); at = place_at (codes "name") (members_of t) t.at }

unfoldable pub pin_desc : IoDir → Tree → IoDesc
pin_desc dir t = record {
  name = text_or_empty (text_at (codes "name") (members_of t));
  width = unwrap_or (number_at 0 4294967295 (codes "width") (members_of t)) 1;
  dir = dir;
}

-- inputs, then outputs, then those that are both
unfoldable pub pins_of : List Member → List IoDesc
pins_of ms =
    map (pin_desc In) (elements (codes "available_input_list") ms)
    ++ (map (pin_desc Out) (elements (codes "available_output_list") ms)
    ++ map (pin_desc InOut) (elements (codes "available_inout_list") ms))

-- the description of the block whose file has this number
unfoldable pub block_of : ℕ → Tree → BlockDesc
block_of file t =
    let ms = members_of t in
    record {
      file = file;
      name = text_or_empty (text_at (codes "name") ms);
      clocking = map clock_desc (elements (codes "clocking") ms);
      faces = map (face_desc ms) (devices ms);
      hosts = map (λ h. record { name = interface_name h }) (hosts ms);
      intrs = map interrupt_desc (elements (codes "interrupt_list") ms);
      intrs_at = place_at (codes "interrupt_list") ms t.at;
      alerts = map alert_desc (elements (codes "alert_list") ms);
      alerts_at = place_at (codes "alert_list") ms t.at;
      auto_intr = not (is_true (codes "no_auto_intr_regs") ms);
      auto_alert = not (is_true (codes "no_auto_alert_regs") ms);
      ios = pins_of ms;
      at = place_at (codes "registers") ms t.at;
    }
