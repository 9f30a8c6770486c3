-- The module's tables and the block's agree: which ports a field has, which bytes a write needs, and which register is a gate.
use Rattle.std.proofs.Common.{◌≡◌, ℕ, suc, ◌/◌, ◌≤◌, max, eqb-true, ◌==◌, Bool, true, false, not, cond, ◌&&◌, List, [], ◌∷◌, Option, Some, None, refl, ap, ◌∙◌, arith}
use Rattle.cg_desc.specs.AccessTable.{is_readable, is_writable, hardware_writes, hardware_sees}
use Rattle.cg_desc.specs.Gates.{has_name, register_named, is_gate}
use Rattle.cg_desc.specs.Shadow.{is_shadowed}
use Rattle.cg_desc.specs.BlockStep.{highest_bit, shows_q, shows_qe, shows_re, brings_d, brings_de}
use Rattle.cg_desc.specs.Laid.{FieldsFit, HasField}
use Rattle.cg_desc.specs.declared.block.SwAccess.{SwAccess}
use Rattle.cg_desc.specs.declared.block.SwAccess.TheVariants.{Ro, Rc, Rw, R0w1c, Rw1s, Rw1c, Rw0c, Wo, Nothing}
use Rattle.cg_desc.specs.declared.block.HwAccess.{HwAccess}
use Rattle.cg_desc.specs.declared.block.HwAccess.TheVariants as hardware
use Rattle.cg_desc.specs.declared.block.FieldDesc.{FieldDesc}
use Rattle.cg_desc.specs.declared.block.RegDesc.{RegDesc}
use Rattle.cg_desc.specs.declared.block.Item.{Item}
use Rattle.cg_desc.specs.declared.block.Item.TheVariants.{Reg, Window, SkipTo, Reserved}
use Rattle.cg_desc.specs.declared.block.LaidRow.{LaidRow}
use Rattle.cg_regspec.specs.RegisterModule.{is_in_word, takes_data, hardware_gets, hardware_sets, has_q, has_qe, has_re, has_d, has_de, has_shadow, last_byte, first_state, gate_or, gate_net}

-- ---- ports

-- a register's word has the fields that software reads
pub in_word_is : (kind : SwAccess) → is_in_word kind ≡ is_readable kind
in_word_is Ro = refl
in_word_is Rc = refl
in_word_is Rw = refl
in_word_is R0w1c = refl
in_word_is Rw1s = refl
in_word_is Rw1c = refl
in_word_is Rw0c = refl
in_word_is Wo = refl
in_word_is Nothing = refl

-- those that it writes take data
pub takes_data_is : (kind : SwAccess) → takes_data kind ≡ is_writable kind
takes_data_is Ro = refl
takes_data_is Rc = refl
takes_data_is Rw = refl
takes_data_is R0w1c = refl
takes_data_is Rw1s = refl
takes_data_is Rw1c = refl
takes_data_is Rw0c = refl
takes_data_is Wo = refl
takes_data_is Nothing = refl

-- hardware gets what it sees
pub gets_is : (kind : HwAccess) → hardware_gets kind ≡ hardware_sees kind
gets_is hardware.Hro = refl
gets_is hardware.Hrw = refl
gets_is hardware.Hwo = refl
gets_is hardware.Nothing = refl

-- and sets what it writes
pub sets_is : (kind : HwAccess) → hardware_sets kind ≡ hardware_writes kind
sets_is hardware.Hro = refl
sets_is hardware.Hrw = refl
sets_is hardware.Hwo = refl
sets_is hardware.Nothing = refl

-- a field has an output for each view that hardware is shown
pub has_q_is : (r : RegDesc) (f : FieldDesc) → has_q r f ≡ shows_q r f
has_q_is r f = λ k. cond r.hwext (takes_data_is f.sw k) (gets_is f.hw k)

pub has_qe_is : (r : RegDesc) (f : FieldDesc) → has_qe r f ≡ shows_qe r f
has_qe_is r f = λ k. cond r.hwext (takes_data_is f.sw k) r.hwqe

pub has_re_is : (r : RegDesc) (f : FieldDesc) → has_re r f ≡ shows_re r f
has_re_is r f = λ k. cond r.hwext (in_word_is f.sw k) r.hwre

-- and an input for each value that hardware brings
pub has_d_is : (r : RegDesc) (f : FieldDesc) → has_d r f ≡ brings_d r f
has_d_is r f = λ k. cond r.hwext (in_word_is f.sw k) (sets_is f.hw k)

pub has_de_is : (r : RegDesc) (f : FieldDesc) → has_de r f ≡ brings_de r f
has_de_is r f = by r.hwext (hardware_sets f.hw) (hardware_writes f.hw) (sets_is f.hw) where
  by : (external x y : Bool) → x ≡ y → cond external false x ≡ (not external && y)
  by true x y e = refl
  by false x y e = e

-- a register has a shadow where it is shadowed
pub has_shadow_is : (r : RegDesc) → has_shadow r ≡ is_shadowed r
has_shadow_is r = by r.hwext r.shadowed where
  by : (external shadowed : Bool) → cond external false shadowed ≡ (shadowed && not external)
  by true true = refl
  by true false = refl
  by false true = refl
  by false false = refl

-- ---- bytes

-- behind fields that end at bit `from`, the highest bit is above it
highest_above : (from : ℕ) (fs : List FieldDesc) → FieldsFit from fs → HasField fs → from ≤ highest_bit fs
highest_above from [] fit some = absurd some
highest_above from (f ∷ fs) fit some = let low = fit.1 in let order = fit.2 in omega arith

-- the last field has the highest bit
last_is_highest : (byte from : ℕ) (f : FieldDesc) (fs : List FieldDesc) → FieldsFit from (f ∷ fs) → last_byte byte (f ∷ fs) ≡ highest_bit (f ∷ fs) / 8
last_is_highest byte from f [] fit = let same : f.msb ≡ max f.msb 0 = omega arith in ap (λ n. n / 8) same
last_is_highest byte from f (g ∷ fs) fit =
    let above = highest_above (suc f.msb) (g ∷ fs) fit.5 tt in
    let same : highest_bit (g ∷ fs) ≡ max f.msb (highest_bit (g ∷ fs)) = omega arith in
    last_is_highest (f.msb / 8) (suc f.msb) g fs fit.5 ∙ ap (λ n. n / 8) same

-- a write needs the bytes up to that of the highest bit
pub last_byte_is : (byte from : ℕ) (fs : List FieldDesc) → FieldsFit from fs → HasField fs → last_byte byte fs ≡ highest_bit fs / 8
last_byte_is byte from [] fit some = absurd some
last_byte_is byte from (f ∷ fs) fit some = last_is_highest byte from f fs fit

-- ---- gates

-- one field of one bit
abbrev pub OneBit : List FieldDesc → Type 0
OneBit [] = ⊥
OneBit (f ∷ []) = f.msb ≡ f.lsb
OneBit (f ∷ (g ∷ fs)) = ⊥

-- the first part of a test that holds
first_part : (b c : Bool) → (b && c) ≡ true → b ≡ true
first_part true c e = refl
first_part false c e = cc

-- a register that can gate others stores one field of one bit
gate_by : (g : RegDesc) (external : Bool) (fields : List FieldDesc) → is_gate (record g { hwext = external; fields = fields }) ≡ true → (external ≡ false) × OneBit fields
gate_by g true fields e = cc
gate_by g false [] e = cc
gate_by g false (f ∷ []) e = (refl, eqb-true f.msb f.lsb (first_part (f.msb == f.lsb) (is_readable f.sw && not f.mubi) e))
gate_by g false (f ∷ (h ∷ fields)) e = cc

pub gate_parts : (g : RegDesc) → is_gate g ≡ true → (g.hwext ≡ false) × OneBit g.fields
gate_parts g e = gate_by g g.hwext g.fields e

-- the net of a register's first field, if there is a register
abbrev pub first_net : Option RegDesc → Option (List ℕ)
first_net None = None
first_net (Some g) = first_state g g.fields

-- a choice of registers is one of nets
net_by : (b : Bool) (r : RegDesc) (later : Option RegDesc) → cond b (first_state r r.fields) (first_net later) ≡ first_net (cond b (Some r) later)
net_by true r later = refl
net_by false r later = refl

-- with one row more
gate_with_row : (first words : ℕ) (item : Item) (rows : List LaidRow) (name : List ℕ) → gate_net rows name ≡ first_net (register_named rows name)
    → gate_or item name (gate_net rows name) ≡ first_net (register_named (record { first = first; words = words; item = item } ∷ rows) name)
gate_with_row first words (Reg r) rows name same = (λ k. cond (has_name r name) (first_state r r.fields) (same k)) ∙ net_by (has_name r name) r (register_named rows name)
gate_with_row first words (Window w) rows name same = same
gate_with_row first words (SkipTo to at) rows name same = same
gate_with_row first words (Reserved spare at) rows name same = same

-- the net of the gate of a name is that of the register of the name
pub gate_net_is : (rows : List LaidRow) (name : List ℕ) → gate_net rows name ≡ first_net (register_named rows name)
gate_net_is [] name = refl
gate_net_is (row ∷ rows) name = gate_with_row row.first row.words row.item rows name (gate_net_is rows name)
