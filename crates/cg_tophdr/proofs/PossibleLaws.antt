-- The laws at work on the top of `Possible`: its header, and an address of its interface.
use Rattle.std.proofs.Common.{◌≡◌, ◌⊎◌, ℕ, ◌+◌, ◌<◌, ◌^◌, List, [], ◌∷◌, inl, inr, Some, None, codes, slice_get, refl, sym, ap, subst, ◌∙◌, arith}
use Rattle.std.specs.Fmt.{digits}
use Rattle.cg_desc.proofs.FoundBases.{base_once}
use Rattle.cg_desc.specs.AddressMap.{IsPlaceFor, ReachesFace}
use Rattle.cg_desc.specs.Crossbar.{Connects, NodeIs}
use Rattle.cg_desc.specs.FoundBase.{base_at, block_at, block_of, found_base, found_in, found_of, has_device_for, is_device_for, is_meant, name_of_space, space_at, space_for, space_of_use}
use Rattle.cg_desc.specs.Merged.{BaseIs, EndAt}
use Rattle.cg_desc.specs.Ranges.{IsRange}
use Rattle.cg_desc.specs.Reach.{HasRanges, interface, nested, outside, straight}
use Rattle.cg_desc.specs.Target.{at_register, register}
use Rattle.cg_desc.specs.declared.address.Place.TheVariants as place
use Rattle.cg_desc.specs.declared.block.IntrDesc.{IntrDesc}
use Rattle.cg_desc.specs.declared.block.LaidBlock.{LaidBlock}
use Rattle.cg_desc.specs.declared.block.LaidFace.{LaidFace}
use Rattle.cg_desc.specs.declared.crossbar.NodeDesc.{NodeDesc}
use Rattle.cg_desc.specs.declared.crossbar.Range.{Range}
use Rattle.cg_desc.specs.declared.crossbar.XbarDesc.{XbarDesc}
use Rattle.cg_desc.specs.declared.top.NodeEnd.TheVariants.{Face, Outside, Xbar}
use Rattle.cg_hdrspec.specs.BlockHeader.{definition_text}
use Rattle.cg_hdrspec.specs.Header.{lines_text}
use Rattle.cg_irq.specs.Numbers.{AreNumbers, IsAlertBit, IsInterruptBit}
use Rattle.cg_irq.specs.declared.bits.Bit.{Bit}
use Rattle.cg_irq.specs.declared.bits.IrqMap.{IrqMap}
use Rattle.cg_pinmux.specs.Pins.{ArePins}
use Rattle.cg_space.specs.Rows.{IsMapHost}
use Rattle.cg_space.specs.Violations.{DeviceAt, IsBadList, NoViolation, ShareWithin, SharesWithEarlier, Violates}
use Rattle.cg_svspec.specs.Names.{Among, first_repeat}
use Rattle.cg_topspec.proofs.Examples.{bit, no_pins, register_face}
use Rattle.cg_topspec.proofs.Possible.{cpu, nothing_there, only}
use Rattle.cg_tophdr.proofs.Law.{top_header_is_meant}
use Rattle.cg_tophdr.proofs.Meeting.{bases_and_offsets_meet}
use Rattle.cg_tophdr.proofs.Possible.{base_is, board, board_is_merged, hub, hub_ends, node_in_hub, part, the_device, the_end, the_host}
use Rattle.cg_tophdr.specs.Meaning.{TopHeaderMeans}
use Rattle.cg_tophdr.specs.TopHeader.{alert_definition, bit_name, guard_of, interface_definitions, interface_name, interrupt_definition, pin_definition, top_definitions, top_header_names, top_header_text}

-- ---- its numbers and pins

-- the first interrupt and the first alert of its instance, and no pin
abbrev board_numbers : IrqMap
board_numbers = record { intr = bit 0 0 0 ∷ []; alert = bit 0 0 0 ∷ [] }

first_bit : (b : Bit) → b.inst ≡ 0 → b.item ≡ 0 → b.bit ≡ 0 → b ≡ bit 0 0 0
first_bit b i k n =
    ap (λ j. record { inst = j; item = b.item; bit = b.bit }) i ∙ (ap (λ j. record { inst = 0; item = j; bit = b.bit }) k ∙ ap (λ j. record { inst = 0; item = 0; bit = j }) n)

its_interrupt : (b : Bit) → IsInterruptBit board b → b ≡ bit 0 0 0
its_interrupt b is =
    let kind = only 0 is.is.1.0 b.inst is.is.1.1 in
    let block = only part is.is.0 is.is.1.0 is.is.1.2 in
    let item = only _ is.interrupt b.item (subst (λ (l : LaidBlock). slice_get l.desc.intrs b.item ≡ Some is.interrupt) (sym block.1) is.is.2) in
    let few : b.bit < 1 = subst (λ (i : IntrDesc). b.bit < i.width) (sym item.1) is.within in
    first_bit b kind.0 item.0 (omega (arith, few))

its_alert : (b : Bit) → IsAlertBit board b → b ≡ bit 0 0 0
its_alert b is =
    let kind = only 0 is.is.1.0 b.inst is.is.1.1 in
    let block = only part is.is.0 is.is.1.0 is.is.1.2 in
    let item = only _ is.alert b.item (subst (λ (l : LaidBlock). slice_get l.desc.alerts b.item ≡ Some is.alert) (sym block.1) is.is.2) in
    first_bit b kind.0 item.0 is.only

numbers_are : AreNumbers board board_numbers
numbers_are = record {
  interrupts = record {
    members = λ b. (an_interrupt b, λ is. inl (its_interrupt b is));
    in_order = λ i j a b p q less. absurd (omega (arith, less, (only (bit 0 0 0) a i p).0, (only (bit 0 0 0) b j q).0));
  };
  alerts = record {
    members = λ b. (an_alert b, λ is. inl (its_alert b is));
    in_order = λ i j a b p q less. absurd (omega (arith, less, (only (bit 0 0 0) a i p).0, (only (bit 0 0 0) b j q).0));
  };
} where
  an_interrupt : (b : Bit) → Among b (bit 0 0 0 ∷ []) → IsInterruptBit board b
  an_interrupt b (inl e) = subst (IsInterruptBit board) (sym e) (record { interrupt = _; is = (part, (0, refl, refl), refl); within = omega arith })
  an_interrupt b (inr a) = absurd a

  an_alert : (b : Bit) → Among b (bit 0 0 0 ∷ []) → IsAlertBit board b
  an_alert b (inl e) = subst (IsAlertBit board) (sym e) (record { alert = _; is = (part, (0, refl, refl), refl); only = refl })
  an_alert b (inr a) = absurd a

pins_are : ArePins board no_pins
pins_are = record {
  inputs = record { uses = []; just = record { members = λ b. (λ a. absurd a, λ is. absurd (nothing_there is.signal b.signal is.is)); in_order = λ i j a b p q less. absurd (nothing_there a i p) }; bits_are = refl };
  outputs = record { uses = []; just = record { members = λ b. (λ a. absurd a, λ is. absurd (nothing_there is.signal b.signal is.is)); in_order = λ i j a b p q less. absurd (nothing_there a i p) }; bits_are = refl };
  pads = record { uses = []; members = λ t. (λ a. absurd a, λ is. absurd (nothing_there is.signal t.signal is.is)); in_order = λ i j a b p q less. absurd (nothing_there a i p); ties_are = refl };
}

-- ---- its header

board_header : top_header_text board board_numbers no_pins ≡ lines_text (
    codes "// Generated by chipgen."
    ∷ codes "#ifndef _TOP_T_H_"
    ∷ codes "#define _TOP_T_H_"
    ∷ codes "#define TOP_T_U_BASE_ADDR 0x10"
    ∷ codes "#define TOP_T_U_SIZE_BYTES 0x4"
    ∷ codes "#define TOP_T_IRQ_U_I 1"
    ∷ codes "#define TOP_T_ALERT_U_A 0"
    ∷ codes "#endif"
    ∷ [])
unfolding top_header_text top_definitions interface_definitions interrupt_definition alert_definition pin_definition bit_name interface_name guard_of definition_text lines_text found_base found_of found_in base_at block_of block_at space_for space_at name_of_space space_of_use has_device_for is_device_for is_meant digits
board_header = refl

names_differ : first_repeat (top_header_names board board_numbers no_pins) ≡ None
unfolding top_header_names top_definitions interface_definitions interrupt_definition alert_definition pin_definition bit_name interface_name guard_of digits
names_differ = refl

-- it says of the top what it is to say
board_header_means : TopHeaderMeans board board_numbers no_pins (top_header_text board board_numbers no_pins)
board_header_means =
    top_header_is_meant board board_numbers no_pins board_is_merged numbers_are pins_are
    (record { interrupts = omega arith; alerts = omega arith; inputs = omega arith; outputs = omega arith }) names_differ

-- ---- no violation

abbrev its_range : Range
its_range = record { base = 16; size = 4 }

range_fits : IsRange its_range
range_fits = record { power = 2; size_is = refl; some = omega arith; turn = 4; aligned = refl; ends = omega arith }

no_nested : (x n y : ℕ) → EndAt board x n (Xbar y) → ⊥
no_nested x n y at = by (the_end x n _ at) where
  by : ((n ≡ 0) × (Outside ≡ Xbar y)) ⊎ ((n ≡ 1) × (Face 0 0 ≡ Xbar y)) → ⊥
  by (inl h) = let e = h.1 in cc
  by (inr h) = let e = h.1 in cc

ranges_are : (x n : ℕ) (rs : List Range) → n ≡ 1 → HasRanges board x n rs → its_range ∷ [] ≡ rs
ranges_are x n rs one (interface i f base face stands face_is found) = by (the_end x n _ stands) where
  by : ((n ≡ 0) × (Outside ≡ Face i f)) ⊎ ((n ≡ 1) × (Face 0 0 ≡ Face i f)) → its_range ∷ [] ≡ record { base = base; size = face.size } ∷ []
  by (inl h) = absurd (omega (arith, h.0, one))
  by (inr h) =
      let ends = h.1 in
      let first : i ≡ 0 = cc in
      let sole : f ≡ 0 = cc in
      let block = only part face_is.0 face_is.1.0 face_is.1.2 in
      let its_face = only register_face face f (subst (λ (b : LaidBlock). slice_get b.faces f ≡ Some face) (sym block.1) face_is.2) in
      let bases : 16 ≡ base = base_once board board_is_merged 0 0 16 base base_is (subst (λ k. BaseIs board 0 k base) sole (subst (λ k. BaseIs board k f base) first found)) in
      ap (λ b. record { base = b; size = 4 } ∷ []) bases ∙ ap (λ (g : LaidFace). record { base = base; size = g.size } ∷ []) its_face.1
ranges_are x n rs one (outside node at stands) = by (the_end x n _ stands) where
  by : ((n ≡ 0) × (Outside ≡ Outside)) ⊎ ((n ≡ 1) × (Face 0 0 ≡ Outside)) → its_range ∷ [] ≡ node.ranges
  by (inl h) = absurd (omega (arith, h.0, one))
  by (inr h) = let e = h.1 in cc
ranges_are x n rs one (nested y k host stands inner have) = absurd (no_nested x n y stands)

device_is : (x n : ℕ) (xbar : XbarDesc) (node : NodeDesc) → DeviceAt board x n xbar node → (n ≡ 1) × (hub ≡ xbar)
device_is x n xbar node d =
    let c = only hub xbar x d.crossbar_is in
    let k = the_device n node (node_in_hub n node (subst (λ (z : XbarDesc). NodeIs z n node) (sym c.1) d.is)) d.is_device in
    (k.0, c.1)

unbroken : NoViolation board
unbroken f (Violates.circle x n xbar node device round) = no_nested x n round.inner round.stands
unbroken f (Violates.bad_range x n xbar node free device (rs, has, bad)) = wrong (subst IsBadList (sym (ranges_are x n rs (device_is x n xbar node device).0 has)) bad) where
  wrong : IsBadList (its_range ∷ []) → ⊥
  wrong (inl e) = absurd cc
  wrong (inr (r, inl e, not)) = not (subst IsRange (sym e) range_fits)
  wrong (inr (r, inr a, not)) = a
unbroken f (Violates.overlap x n xbar node free device (rs, has, shared)) = by shared where
  to_one : (h d : ℕ) → Connects xbar h d → d ≡ 1
  to_one h d c = of (subst (λ (z : NodeDesc). Among d z.to) (sym (the_host h c.0 (node_in_hub h c.0 (subst (λ (z : XbarDesc). NodeIs z h c.0) (sym (device_is x n xbar node device).1) c.1)) c.2).1) c.3) where
    of : Among d (1 ∷ []) → d ≡ 1
    of (inl e) = e
    of (inr b) = absurd b

  by : ShareWithin rs ⊎ SharesWithEarlier board x n xbar rs → ⊥
  by (inl (j, s)) =
      let at_i = only its_range s.earlier s.i (subst (λ (l : List Range). slice_get l s.i ≡ Some s.earlier) (sym (ranges_are x n rs (device_is x n xbar node device).0 has)) s.earlier_is) in
      let at_j = only its_range s.later j (subst (λ (l : List Range). slice_get l j ≡ Some s.later) (sym (ranges_are x n rs (device_is x n xbar node device).0 has)) s.later_is) in
      absurd (omega (arith, s.order, at_i.0, at_j.0))
  by (inr s) = absurd (omega (arith, s.order, to_one s.host s.device s.to_earlier, (device_is x n xbar node device).0))

-- ---- an address of its interface

host_is : IsMapHost board 0 0
host_is = record { host = cpu; is = record { crossbar = hub; crossbar_is = refl; is = refl }; is_host = refl; end = Outside; stands = (hub_ends, refl, refl); plain = tt }

reaches_it : ReachesFace board 0 0 0 0 16 register_face
reaches_it = record {
  z = 0;
  d = 1;
  reaches = straight (Face 0 0) (record { host = cpu; is = record { crossbar = hub; crossbar_is = refl; is = refl }; is_host = refl; connects = inl refl }) (hub_ends, refl, refl) tt;
  stands = (hub_ends, refl, refl);
  face_is = (part, (0, refl, refl), refl);
  base_is = base_is;
}

-- the base with offset 0 is the address of the interface's register
board_address : (16 + 0 < 2 ^ 32) × IsPlaceFor board 0 0 (16 + 0) (place.Reg 0 0 0)
board_address =
    bases_and_offsets_meet board 0 0 0 0 16 0 register_face (register 0) board_is_merged unbroken host_is reaches_it
    (at_register 0 _ _ refl refl (record { from_start = omega arith; before_end = omega arith })) (λ e. cc)
