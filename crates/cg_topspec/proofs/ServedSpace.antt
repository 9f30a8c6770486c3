-- The top with an interface has its ties, and breaks no rule on ranges and names.
use Rattle.std.proofs.Common.{List, None, Some, [], ap, arith, codes, false, inl, inr, refl, slice_get, subst, suc, sym, zero, ℕ, ◌<◌, ◌∙◌, ◌∷◌, ◌≡◌, ◌≤◌, ◌⊎◌}
use Rattle.cg_clkrst.specs.Ports.{IsUsedBefore, TiePort, clock_of, uses_of}
use Rattle.cg_clkrst.specs.Ties.{HasSource}
use Rattle.cg_clkrst.specs.declared.tie.Tie.{Tie}
use Rattle.cg_desc.proofs.FoundBases.{base_once}
use Rattle.cg_desc.specs.Crossbar.{Connects, NodeIs}
use Rattle.cg_desc.specs.Merged.{BaseIs, BlockAt, EndAt, FaceAt}
use Rattle.cg_desc.specs.Ranges.{IsRange}
use Rattle.cg_desc.specs.Reach.{HasRanges, interface, nested, outside}
use Rattle.cg_desc.specs.declared.block.LaidBlock.{LaidBlock}
use Rattle.cg_desc.specs.declared.block.LaidFace.{LaidFace}
use Rattle.cg_desc.specs.declared.crossbar.NodeDesc.{NodeDesc}
use Rattle.cg_desc.specs.declared.crossbar.Range.{Range}
use Rattle.cg_desc.specs.declared.crossbar.XbarDesc.{XbarDesc}
use Rattle.cg_desc.specs.declared.top.NodeEnd.{NodeEnd}
use Rattle.cg_desc.specs.declared.top.NodeEnd.TheVariants.{Face, Outside, Xbar}
use Rattle.cg_irq.specs.Numbers.{IsAlertBit, IsInterruptBit}
use Rattle.cg_irq.specs.declared.bits.Bit.{Bit}
use Rattle.cg_regspec.specs.NetNames.{base}
use Rattle.cg_space.specs.Violations.{DeviceAt, IsBadList, NoViolation, ShareWithin, SharesWithEarlier, Violates}
use Rattle.cg_svspec.specs.Names.{Among}
use Rattle.cg_topspec.proofs.Examples.{no_numbers, no_pins}
use Rattle.cg_topspec.proofs.Possible.{either, nothing_there, only, used}
use Rattle.cg_topspec.proofs.Served.{EitherNode, data_face, device_of, ends_are, its_block, node_in_serving, served, served_block, serving, unit, unit_node}
use Rattle.cg_topspec.proofs.ServedMerged.{base_is, served_is_merged}
use Rattle.cg_topspec.specs.Clashes.{clash_lists, file_names, first_clash, known_modules}
use Rattle.cg_topspec.specs.Fits.{FitsTop}
use Rattle.cg_topspec.specs.Nets.{own_link}
use Rattle.cg_topspec.specs.TopModule.{top_module}
use Rattle.cg_clkrst.specs.declared.tie.Owner.TheVariants as owner

abbrev unit_tie : Tie
unit_tie = record { owner = owner.Inst 0; reset = false; port = codes "k"; source = codes "s" }

abbrev serving_tie : Tie
serving_tie = record { owner = owner.Xbar 0; reset = false; port = codes "k"; source = codes "s" }

abbrev pub its_ties : List Tie
its_ties = unit_tie ∷ serving_tie ∷ []

abbrev unit_port : TiePort
unit_port = clock_of (owner.Inst 0) (codes "k")

abbrev serving_port : TiePort
serving_port = clock_of (owner.Xbar 0) (codes "k")

block_is : (i : ℕ) (block : LaidBlock) → BlockAt served i block → served_block ≡ block
block_is i block at = (its_block at.0 block at.2).1

no_interrupt_bit : (b : Bit) → IsInterruptBit served b → ⊥
no_interrupt_bit b is =
    nothing_there is.interrupt b.item (subst (λ (k : LaidBlock). slice_get k.desc.intrs b.item ≡ Some is.interrupt)
    (sym (block_is b.inst is.is.0 is.is.1)) is.is.2)

no_alert_bit : (b : Bit) → IsAlertBit served b → ⊥
no_alert_bit b is =
    nothing_there is.alert b.item (subst (λ (k : LaidBlock). slice_get k.desc.alerts b.item ≡ Some is.alert) (sym (block_is b.inst is.is.0 is.is.1)) is.is.2)

same_port : (p : TiePort) → Among p (uses_of served) → Among p (unit_port ∷ serving_port ∷ [])
same_port p (inl e) = inl e
same_port p (inr (inl e)) = inr (inl e)
same_port p (inr (inr (inl e))) = inr (inl e)
same_port p (inr (inr (inr (inl e)))) = inr (inl e)
same_port p (inr (inr (inr (inr a)))) = absurd a

port_used : (p : TiePort) → Among p (unit_port ∷ serving_port ∷ []) → Among p (uses_of served)
port_used p (inl e) = inl e
port_used p (inr (inl e)) = inr (inl e)
port_used p (inr (inr a)) = absurd a

used_in_order : (i j : ℕ) (a b : TiePort) → slice_get (unit_port ∷ serving_port ∷ []) i ≡ Some a → slice_get (unit_port ∷ serving_port ∷ []) j ≡ Some b
    → i < j → IsUsedBefore (uses_of served) a b
used_in_order i j a b p q less = by (either unit_port serving_port a i p) (either unit_port serving_port b j q) where
  not_first : (k : ℕ) → k ≤ 0 → serving_port ≡ b → slice_get (uses_of served) k ≡ Some b → ⊥
  not_first zero low e at = let same : unit_port ≡ b = cc in owners_differ (ap (λ (t : TiePort). t.owner) (same ∙ sym e)) where
    owners_differ : owner.Inst 0 ≡ owner.Xbar 0 → ⊥
    owners_differ e = cc
  not_first (suc k) low e at = absurd (omega (arith, low))

  by : ((i ≡ 0) × (unit_port ≡ a)) ⊎ ((i ≡ 1) × (serving_port ≡ a)) → ((j ≡ 0) × (unit_port ≡ b)) ⊎ ((j ≡ 1) × (serving_port ≡ b))
      → IsUsedBefore (uses_of served) a b
  by (inl s) (inl t) = absurd (omega (arith, less, s.0, t.0))
  by (inl s) (inr t) = (0, ap Some s.1, λ k low at. not_first k low t.1 at)
  by (inr s) (inl t) = absurd (omega (arith, less, s.0, t.0))
  by (inr s) (inr t) = absurd (omega (arith, less, s.0, t.0))

pub served_fits : FitsTop served no_numbers its_ties no_pins
served_fits = record {
  merged = served_is_merged;
  numbers_are = record {
    interrupts = record { members = λ b. (λ a. absurd a, λ is. absurd (no_interrupt_bit b is)); in_order = λ i j a b p q less. absurd (nothing_there a i p) };
    alerts = record { members = λ b. (λ a. absurd a, λ is. absurd (no_alert_bit b is)); in_order = λ i j a b p q less. absurd (nothing_there a i p) };
  };
  ties_are = record {
    ports = record { members = λ p. (port_used p, same_port p); in_order = used_in_order };
    sources = (
      HasSource.instance_clock 0 unit (codes "k") (codes "s") refl (record { named = refl; there = inl refl }),
      (HasSource.crossbar_clock 0 used (codes "k") (codes "s") refl (record { named = refl; there = inl refl }), tt),
    );
  };
  pins_are = record {
    inputs = record {
      uses = [];
      just = record {
        members = λ b. (λ a. absurd a, λ is. absurd (nothing_there is.signal b.signal is.is));
        in_order = λ i j a b p q less. absurd (nothing_there a i p);
      };
      bits_are = refl;
    };
    outputs = record {
      uses = [];
      just = record {
        members = λ b. (λ a. absurd a, λ is. absurd (nothing_there is.signal b.signal is.is));
        in_order = λ i j a b p q less. absurd (nothing_there a i p);
      };
      bits_are = refl;
    };
    pads = record {
      uses = [];
      members = λ t. (λ a. absurd a, λ is. absurd (nothing_there is.signal t.signal is.is));
      in_order = λ i j a b p q less. absurd (nothing_there a i p);
      ties_are = refl;
    };
  };
}

pub served_names_differ : first_clash (clash_lists served no_numbers its_ties no_pins) ≡ None
unfolding clash_lists known_modules file_names top_module own_link
served_names_differ = refl

-- ---- no violation

abbrev pub unit_range : Range
unit_range = record { base = 16; size = 4 }

unit_fits : IsRange unit_range
unit_fits = record { power = 2; size_is = refl; some = omega arith; turn = 4; aligned = refl; ends = omega arith }

-- device 1 stands for the interface
stands_for_unit : (x n : ℕ) (e : NodeEnd) → n ≡ 1 → EndAt served x n e → Face 0 0 ≡ e
stands_for_unit x n e one stands = by (ends_are x n e stands).1 where
  by : ((n ≡ 0) × (Outside ≡ e)) ⊎ ((n ≡ 1) × (Face 0 0 ≡ e)) → Face 0 0 ≡ e
  by (inl k) = absurd (omega (arith, k.0, one))
  by (inr k) = k.1

face_parts : (i f : ℕ) → Face 0 0 ≡ Face i f → (0 ≡ i) × (0 ≡ f)
face_parts i f e = (cc, cc)

face_is : (f : ℕ) (face : LaidFace) → FaceAt served 0 f face → data_face ≡ face
face_is f face at = (only data_face face f (subst (λ (b : LaidBlock). slice_get b.faces f ≡ Some face) (sym (block_is 0 at.0 at.1)) at.2)).1

ranges_are : (x n : ℕ) (rs : List Range) → n ≡ 1 → HasRanges served x n rs → unit_range ∷ [] ≡ rs
ranges_are x n rs one (interface i f base face stands at has) =
    let parts = face_parts i f (stands_for_unit x n (Face i f) one stands) in
    let here : FaceAt served 0 f face = subst (λ k. FaceAt served k f face) (sym parts.0) at in
    let its_base : BaseIs served 0 0 base = subst (λ k. BaseIs served 0 k base) (sym parts.1) (subst (λ k. BaseIs served k f base) (sym parts.0) has) in
    let same : 16 ≡ base = base_once served served_is_merged 0 0 16 base base_is its_base in
    range_same 16 base 4 face.size same (ap (λ (g : LaidFace). g.size) (face_is f face here))
  where
    range_same : (a b s t : ℕ) → a ≡ b → s ≡ t → ◌≡◌ {A = List Range} (record { base = a; size = s } ∷ []) (record { base = b; size = t } ∷ [])
    range_same a b s t e f = rw (e, f) refl
ranges_are x n rs one (outside node at stands) = absurd (let bad = stands_for_unit x n Outside one stands in cc)
ranges_are x n rs one (nested y k host stands inner have) = absurd (let bad = stands_for_unit x n _ one stands in cc)

device_is : (x n : ℕ) (xbar : XbarDesc) (node : NodeDesc) → DeviceAt served x n xbar node → (n ≡ 1) × (unit_node ≡ node) × (serving ≡ xbar)
device_is x n xbar node d =
    let c = only serving xbar x d.crossbar_is in
    let k = device_of n node (node_in_serving n node (subst (λ (z : XbarDesc). NodeIs z n node) (sym c.1) d.is)) d.is_device in (k.0, k.1, c.1)

-- each host connects to device 1 alone
to_one : (xbar : XbarDesc) → serving ≡ xbar → (h d : ℕ) → Connects xbar h d → d ≡ 1
to_one xbar same h d c = pick (node_in_serving h c.0 (subst (λ (z : XbarDesc). NodeIs z h c.0) (sym same) c.1)) c.3 where
  pick : EitherNode h c.0 → Among d c.0.to → d ≡ 1
  pick (inl k) a = of (subst (λ (z : NodeDesc). Among d z.to) (sym k.1) a) where
    of : Among d (1 ∷ []) → d ≡ 1
    of (inl e) = e
    of (inr b) = absurd b
  pick (inr k) a = absurd (subst (λ (z : NodeDesc). Among d z.to) (sym k.1) a)

no_crossbar_end : (x n y : ℕ) → EndAt served x n (Xbar y) → ⊥
no_crossbar_end x n y stands = by (ends_are x n (Xbar y) stands).1 where
  by : ((n ≡ 0) × (Outside ≡ Xbar y)) ⊎ ((n ≡ 1) × (Face 0 0 ≡ Xbar y)) → ⊥
  by (inl k) = let bad = k.1 in cc
  by (inr k) = let bad = k.1 in cc

pub served_unbroken : NoViolation served
served_unbroken f (Violates.circle x n xbar node device round) = no_crossbar_end x n round.inner round.stands
served_unbroken f (Violates.bad_range x n xbar node free device (rs, has, bad)) =
    wrong (subst IsBadList (sym (ranges_are x n rs (device_is x n xbar node device).0 has)) bad) where
      wrong : IsBadList (unit_range ∷ []) → ⊥
      wrong (inl e) = absurd cc
      wrong (inr (r, inl e, not)) = not (subst IsRange (sym e) unit_fits)
      wrong (inr (r, inr a, not)) = a
served_unbroken f (Violates.overlap x n xbar node free device (rs, has, shared)) = by shared where
  by : ShareWithin rs ⊎ SharesWithEarlier served x n xbar rs → ⊥
  by (inl (j, s)) =
      let at_i = only unit_range s.earlier s.i (subst (λ (l : List Range). slice_get l s.i ≡ Some s.earlier)
      (sym (ranges_are x n rs (device_is x n xbar node device).0 has)) s.earlier_is) in
      let at_j = only unit_range s.later j (subst (λ (l : List Range). slice_get l j ≡ Some s.later)
      (sym (ranges_are x n rs (device_is x n xbar node device).0 has)) s.later_is) in
      absurd (omega (arith, s.order, at_i.0, at_j.0))
  by (inr s) = absurd (omega (arith, s.order, to_one xbar (device_is x n xbar node device).2 s.host s.device s.to_earlier, (device_is x n xbar node device).0))
