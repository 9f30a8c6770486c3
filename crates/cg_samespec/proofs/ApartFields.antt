-- Fields that were read stand at places of their own.
use Rattle.std.proofs.Common.{◌≡◌, ℕ, suc, ◌+◌, ◌<◌, ◌≤◌, nat_lt, Bool, true, false, List, [], ◌∷◌, map, Option, cond, codes, sym, arith}
use Rattle.cg_svspec.specs.Printable.{AllOf}
use Rattle.cg_desc.specs.Items.{alert_fields, automatic_field, interrupt_fields}
use Rattle.cg_desc.specs.declared.block.AlertDesc.{AlertDesc}
use Rattle.cg_desc.specs.declared.block.FieldDesc.{FieldDesc}
use Rattle.cg_desc.specs.declared.block.HwAccess.{HwAccess}
use Rattle.cg_desc.specs.declared.block.HwAccess.TheVariants.{Hro}
use Rattle.cg_desc.specs.declared.block.IntrDesc.{IntrDesc}
use Rattle.cg_desc.specs.declared.block.SwAccess.{SwAccess}
use Rattle.cg_desc.specs.declared.block.SwAccess.TheVariants.{Wo}
use Rattle.cg_hjson.specs.declared.tree.Tree.{Tree}
use Rattle.cg_keys.specs.Elements.{elements}
use Rattle.cg_keys.specs.Lookups.{place_at}
use Rattle.cg_keys.specs.Values.{members_of}
use Rattle.cg_blkread.specs.Described.{alert_desc, field_desc, in_bit_order, interrupt_desc, put_field, register_desc}
use Rattle.cg_blkread.specs.Raw.{Shared, raw_field, raw_fields, raw_register, shared_of}
use Rattle.cg_samespec.proofs.ApartParts.{InRow, PlaceIn, TreeIn, elements_row, place_there, tree_place}

-- ---- places of their own

-- two fields stand at different places
abbrev pub Differ : FieldDesc → FieldDesc → Type 0
Differ f g = ¬ (f.at.byte ≡ g.at.byte)

-- no two of the fields stand at one place
abbrev pub PlacesApart : List FieldDesc → Type 0
PlacesApart [] = Unit {0}
PlacesApart (f ∷ fs) = AllOf (Differ f) fs × PlacesApart fs

-- each field stands higher than those before it
abbrev Rising : ℕ → List FieldDesc → Type 0
Rising low [] = Unit {0}
Rising low (f ∷ fs) = (low ≤ f.at.byte) × Rising (suc f.at.byte) fs

rising_lower : (low lower : ℕ) (fs : List FieldDesc) → lower ≤ low → Rising low fs → Rising lower fs
rising_lower low lower [] p h = tt
rising_lower low lower (f ∷ fs) p h = (omega (arith, p, h.0), h.1)

rising_differ : (f : FieldDesc) (low : ℕ) (fs : List FieldDesc) → f.at.byte < low → Rising low fs → AllOf (Differ f) fs
rising_differ f low [] p h = tt
rising_differ f low (g ∷ gs) p h = ((λ e. omega (arith, p, h.0, e)), rising_differ f (suc g.at.byte) gs (omega (arith, p, h.0)) h.1)

rising_apart : (low : ℕ) (fs : List FieldDesc) → Rising low fs → PlacesApart fs
rising_apart low [] h = tt
rising_apart low (f ∷ fs) h = (rising_differ f (suc f.at.byte) fs (omega arith) h.1, rising_apart (suc f.at.byte) fs h.1)

-- one more field in front, which stands before a byte from which on the others stand
in_front : (f : FieldDesc) (low middle high : ℕ) (fs : List FieldDesc) → PlaceIn low middle f.at → Rising middle fs → Rising low (f ∷ fs)
in_front f low middle high fs place rest = (place.0, rising_lower middle (suc f.at.byte) fs (omega (arith, place.1)) rest)

-- ---- in the order of their bits

put_all : (P : FieldDesc → Type 0) (f : FieldDesc) (fs : List FieldDesc) → P f → AllOf P fs → AllOf P (put_field f fs)
unfolding put_field
put_all P f [] here all = (here, tt)
put_all P f (g ∷ gs) here all = by (nat_lt f.lsb g.lsb) (put_all P f gs here all.1) where
  by : (b : Bool) → AllOf P (put_field f gs) → AllOf P (cond b (f ∷ g ∷ gs) (g ∷ put_field f gs))
  by true later = (here, all)
  by false later = (all.0, later)

order_all : (P : FieldDesc → Type 0) (fs : List FieldDesc) → AllOf P fs → AllOf P (in_bit_order fs)
unfolding in_bit_order
order_all P [] all = tt
order_all P (f ∷ fs) all = put_all P f (in_bit_order fs) all.0 (order_all P fs all.1)

put_apart : (f : FieldDesc) (fs : List FieldDesc) → AllOf (Differ f) fs → PlacesApart fs → PlacesApart (put_field f fs)
unfolding put_field
put_apart f [] here apart = (tt, tt)
put_apart f (g ∷ gs) here apart = by (nat_lt f.lsb g.lsb) (put_all (Differ g) f gs (λ e. here.0 (sym e)) apart.0) (put_apart f gs here.1 apart.1) where
  by : (b : Bool) → AllOf (Differ g) (put_field f gs) → PlacesApart (put_field f gs) → PlacesApart (cond b (f ∷ g ∷ gs) (g ∷ put_field f gs))
  by true others later = (here, apart)
  by false others later = (others, later)

order_apart : (fs : List FieldDesc) → PlacesApart fs → PlacesApart (in_bit_order fs)
unfolding in_bit_order
order_apart [] apart = tt
order_apart (f ∷ fs) apart = put_apart f (in_bit_order fs) (order_all (Differ f) fs apart.0) (order_apart fs apart.1)

-- ---- fields of a register

field_place : (register : Option ℕ) (shared : Shared) (number : ℕ) (t : Tree) (low high : ℕ) → TreeIn low high t
    → PlaceIn low high (field_desc register (raw_field shared number t)).at
unfolding field_desc raw_field
field_place register shared number t low high h =
    place_there (codes "name") t (place_at (codes "bits") (members_of t) t.at) low high h
    (place_there (codes "bits") t t.at low high h (tree_place t low high h))

fields_rise : (register : Option ℕ) (shared : Shared) (number : ℕ) (ts : List Tree) (low high : ℕ) → InRow low high ts
    → Rising low (map (field_desc register) (raw_fields shared number ts))
fields_rise register shared number [] low high h = tt
fields_rise register shared number (t ∷ ts) low high h =
    in_front (field_desc register (raw_field shared number t)) low h.0 high (map (field_desc register) (raw_fields shared (number + 1) ts))
    (field_place register shared number t low h.0 h.1) (fields_rise register shared (number + 1) ts h.0 high h.2)

-- the fields of a register that was read
pub register_apart : (t : Tree) (low high : ℕ) → TreeIn low high t → PlacesApart (register_desc (raw_register t)).fields
unfolding register_desc raw_register
register_apart t low high h =
    let ts : List Tree = elements (codes "fields") (members_of t) in
    let resval : Option ℕ = (raw_register t).resval in
    let fs : List FieldDesc = map (field_desc resval) (raw_fields (shared_of (members_of t)) 1 ts) in
    order_apart fs (rising_apart low fs (fields_rise resval (shared_of (members_of t)) 1 ts low high (elements_row (codes "fields") t low high h)))

-- ---- fields that come of themselves

interrupt_place : (t : Tree) (low high : ℕ) → TreeIn low high t → PlaceIn low high (interrupt_desc t).at
unfolding interrupt_desc
interrupt_place t low high h = place_there (codes "name") t t.at low high h (tree_place t low high h)

interrupts_rise : (sw : IntrDesc → SwAccess) (hw : HwAccess) (lsb : ℕ) (ts : List Tree) (low high : ℕ) → InRow low high ts
    → Rising low (interrupt_fields sw hw lsb (map interrupt_desc ts))
unfolding interrupt_fields
interrupts_rise sw hw lsb [] low high h = tt
interrupts_rise sw hw lsb (t ∷ ts) low high h =
    let i : IntrDesc = interrupt_desc t in
    in_front (automatic_field i.name lsb i.width (sw i) hw i.at) low h.0 high (interrupt_fields sw hw (lsb + i.width) (map interrupt_desc ts))
    (interrupt_place t low h.0 h.1) (interrupts_rise sw hw (lsb + i.width) ts h.0 high h.2)

-- the fields of interrupts that were read
pub interrupts_apart : (sw : IntrDesc → SwAccess) (hw : HwAccess) (ts : List Tree) (low high : ℕ) → InRow low high ts
    → PlacesApart (interrupt_fields sw hw 0 (map interrupt_desc ts))
interrupts_apart sw hw ts low high h = rising_apart low (interrupt_fields sw hw 0 (map interrupt_desc ts)) (interrupts_rise sw hw 0 ts low high h)

alert_place : (t : Tree) (low high : ℕ) → TreeIn low high t → PlaceIn low high (alert_desc t).at
unfolding alert_desc
alert_place t low high h = place_there (codes "name") t t.at low high h (tree_place t low high h)

alerts_rise : (lsb : ℕ) (ts : List Tree) (low high : ℕ) → InRow low high ts → Rising low (alert_fields lsb (map alert_desc ts))
unfolding alert_fields
alerts_rise lsb [] low high h = tt
alerts_rise lsb (t ∷ ts) low high h =
    let a : AlertDesc = alert_desc t in
    in_front (automatic_field a.name lsb 1 Wo Hro a.at) low h.0 high (alert_fields (lsb + 1) (map alert_desc ts))
    (alert_place t low h.0 h.1) (alerts_rise (lsb + 1) ts h.0 high h.2)

-- the fields of alerts that were read
pub alerts_apart : (ts : List Tree) (low high : ℕ) → InRow low high ts → PlacesApart (alert_fields 0 (map alert_desc ts))
alerts_apart ts low high h = rising_apart low (alert_fields 0 (map alert_desc ts)) (alerts_rise 0 ts low high h)
