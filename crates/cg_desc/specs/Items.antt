-- The items that the device interfaces of a block stand for: the registers that come of themselves, and then what each entry
-- stands for (OpenTitan Register Tool: interrupts, alerts and multiregs).
use Rattle.std.specs.Prelude.{ℕ, ◌+◌, ◌-◌, ◌*◌, ◌/◌, nat_lt, min, Bool, true, false, ◌&&◌, cond, List, [], ◌∷◌, ◌++◌, map, flat_map, codes, decimal, Option, None, option_map}
use Rattle.std.specs.List.{range_with_len}
use Rattle.cg_desc.specs.declared.place.At.{At}
use Rattle.cg_desc.specs.declared.block.SwAccess.{SwAccess}
use Rattle.cg_desc.specs.declared.block.SwAccess.TheVariants.{Ro, Rw, Rw1c, Wo}
use Rattle.cg_desc.specs.declared.block.HwAccess.{HwAccess}
use Rattle.cg_desc.specs.declared.block.HwAccess.TheVariants.{Hro, Hrw}
use Rattle.cg_desc.specs.declared.block.FieldDesc.{FieldDesc}
use Rattle.cg_desc.specs.declared.block.RegDesc.{RegDesc}
use Rattle.cg_desc.specs.declared.block.MultiDesc.{MultiDesc}
use Rattle.cg_desc.specs.declared.block.Written.{Written}
use Rattle.cg_desc.specs.declared.block.Written.TheVariants as written
use Rattle.cg_desc.specs.declared.block.Item.{Item}
use Rattle.cg_desc.specs.declared.block.Item.TheVariants.{Reg, Window, SkipTo, Reserved}
use Rattle.cg_desc.specs.declared.block.IntrDesc.{IntrDesc}
use Rattle.cg_desc.specs.declared.block.AlertDesc.{AlertDesc}
use Rattle.cg_desc.specs.declared.block.FaceDesc.{FaceDesc}
use Rattle.cg_desc.specs.declared.block.FaceItems.{FaceItems}
use Rattle.cg_desc.specs.declared.block.BlockDesc.{BlockDesc}

-- ---- registers that come of themselves

-- a field from bit `lsb` on, which is 0 at reset
abbrev pub automatic_field : List ℕ → ℕ → ℕ → SwAccess → HwAccess → At → FieldDesc
automatic_field name lsb width sw hw at =
    record { name = name; msb = lsb + width - 1; lsb = lsb; sw = sw; hw = hw; resval = 0; mubi = false; at = at }

-- a field for each interrupt, at the next free bit from `lsb` on
unfoldable pub interrupt_fields : (IntrDesc → SwAccess) → HwAccess → ℕ → List IntrDesc → List FieldDesc
interrupt_fields sw hw lsb [] = []
interrupt_fields sw hw lsb (i ∷ is) = automatic_field i.name lsb i.width (sw i) hw i.at ∷ interrupt_fields sw hw (lsb + i.width) is

-- a field of one bit for each alert
unfoldable pub alert_fields : ℕ → List AlertDesc → List FieldDesc
alert_fields lsb [] = []
alert_fields lsb (a ∷ as') = automatic_field a.name lsb 1 Wo Hro a.at ∷ alert_fields (lsb + 1) as'

abbrev pub automatic_register : List ℕ → List FieldDesc → Bool → At → RegDesc
automatic_register name fields hwext at =
    record { name = name; fields = fields; regwen = None; regwen_at = at; hwext = hwext; hwqe = false; hwre = false; shadowed = false; at = at }

-- An event stays until software writes 1 to it; a status is only read.
abbrev pub state_access : IntrDesc → SwAccess
state_access i = cond i.status Ro Rw1c

-- the three registers of the interrupts
unfoldable pub interrupt_registers : BlockDesc → List Item
interrupt_registers b =
    Reg (automatic_register (codes "INTR_STATE") (interrupt_fields state_access Hrw 0 b.intrs) false b.intrs_at)
    ∷ Reg (automatic_register (codes "INTR_ENABLE") (interrupt_fields (λ i. Rw) Hro 0 b.intrs) false b.intrs_at)
    ∷ Reg (automatic_register (codes "INTR_TEST") (interrupt_fields (λ i. Wo) Hro 0 b.intrs) true b.intrs_at)
    ∷ []

unfoldable pub alert_registers : BlockDesc → List Item
alert_registers b = Reg (automatic_register (codes "ALERT_TEST") (alert_fields 0 b.alerts) true b.alerts_at) ∷ []

abbrev pub has_some : {X : Type 0} → List X → Bool
has_some [] = false
has_some (x ∷ xs) = true

-- all of them: where there are interrupts, or alerts, and the block does not ask to leave theirs out
abbrev pub automatic_items : BlockDesc → List Item
automatic_items b = cond (b.auto_intr && has_some b.intrs) (interrupt_registers b) [] ++ cond (b.auto_alert && has_some b.alerts) (alert_registers b) []

-- ---- copies of a register

-- `<name>_<number>`
abbrev pub numbered : List ℕ → ℕ → List ℕ
numbered name k = name ++ (95 ∷ decimal k)

-- the bits from bit 0 up to the top of the one field of a copy
abbrev pub copy_bits : List FieldDesc → ℕ
copy_bits [] = 1
copy_bits (f ∷ fs) = f.msb + 1

-- how many copies a word holds: one, but where they are compacted as many as have room
unfoldable pub copies_per_word : MultiDesc → ℕ
copies_per_word m = cond m.compact (32 / copy_bits m.reg.fields) 1

-- the least number of words that hold all copies
unfoldable pub word_count : MultiDesc → ℕ
word_count m = (m.count + (copies_per_word m - 1)) / copies_per_word m

-- the fields of copy k, which stands at this place of its word
unfoldable pub copy_fields : MultiDesc → ℕ → ℕ → List FieldDesc
copy_fields m k place = map (λ f. record {
  name = numbered f.name k;
  msb = f.msb + copy_bits m.reg.fields * place;
  lsb = f.lsb + copy_bits m.reg.fields * place;
  sw = f.sw;
  hw = f.hw;
  resval = f.resval;
  mubi = f.mubi;
  at = f.at;
}) m.reg.fields

-- the copies of word j: from its first one up to a full word, or to the last copy
unfoldable pub copies_in_word : MultiDesc → ℕ → ℕ
copies_in_word m j = min (copies_per_word m) (m.count - j * copies_per_word m)

unfoldable pub word_fields : MultiDesc → ℕ → List FieldDesc
word_fields m j = flat_map (λ place. copy_fields m (j * copies_per_word m + place) place) (range_with_len 0 (copies_in_word m j))

-- which register gates copy k: the one that is named, or with `regwen_multi` and several copies its own
unfoldable pub copy_gate : MultiDesc → ℕ → Option (List ℕ)
copy_gate m k = option_map (λ name. cond (m.regwen_multi && nat_lt 1 m.count) (numbered name k) name) m.reg.regwen

-- word j of the copies, which has a number in its name where there is more than one word
unfoldable pub multireg_word : MultiDesc → ℕ → RegDesc
multireg_word m j = record {
  name = cond (nat_lt 1 (word_count m)) (numbered m.reg.name j) m.reg.name;
  fields = word_fields m j;
  regwen = copy_gate m j;
  regwen_at = m.reg.regwen_at;
  hwext = m.reg.hwext;
  hwqe = m.reg.hwqe;
  hwre = m.reg.hwre;
  shadowed = m.reg.shadowed;
  at = m.reg.at;
}

-- ---- entries and interfaces

-- what an entry stands for
abbrev pub entry_items : Written → List Item
entry_items (written.Reg r) = Reg r ∷ []
entry_items (written.Multi m) = map (λ j. Reg (multireg_word m j)) (range_with_len 0 (word_count m))
entry_items (written.Window w) = Window w ∷ []
entry_items (written.SkipTo to at) = SkipTo to at ∷ []
entry_items (written.Reserved words at) = Reserved words at ∷ []

-- the interfaces' items, of which the first interface has these in front of its own
unfoldable pub items_of_faces : List Item → List FaceDesc → List FaceItems
items_of_faces front [] = []
items_of_faces front (f ∷ fs) = record { items = front ++ flat_map entry_items f.entries } ∷ items_of_faces [] fs

-- the items of each device interface: what comes of itself stands in the first
abbrev pub items_of_block : BlockDesc → List FaceItems
items_of_block b = items_of_faces (automatic_items b) b.faces
