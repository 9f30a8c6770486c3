-- Numbers and pins as their makers give them have few bits.
use Rattle.std.proofs.Common.{List, Some, [], ap, arith, inl, inr, length, refl, slice_get, sym, ℕ, ◌-◌, ◌<◌, ◌∙◌, ◌∷◌, ◌≡◌, ◌≤◌, ◌⊎◌}
use Rattle.std.proofs.lemmas.Bool.{cases_lt}
use Rattle.std.proofs.lemmas.List.{length-map}
use Rattle.std.proofs.lemmas.Option.{slice_get_within}
use Rattle.cg_desc.proofs.Numbered.{item_among, item_at, item_number}
use Rattle.cg_desc.specs.Ends.{InstanceIs}
use Rattle.cg_desc.specs.Merged.{IsMerged, design_of}
use Rattle.cg_desc.specs.declared.top.MergedTop.{MergedTop}
use Rattle.cg_irq.specs.Numbers.{AreBits, IsAlertBit, IsInterruptBit}
use Rattle.cg_irq.specs.Violations.{IsNumbering}
use Rattle.cg_irq.specs.declared.bits.Bit.{Bit}
use Rattle.cg_irq.specs.declared.bits.IrqMap.{IrqMap}
use Rattle.cg_pinmux.specs.Pins.{AreNumbered, AreSignalBits, IsInput, IsOutput, SignalBit, SignalBitBefore}
use Rattle.cg_pinmux.specs.Violations.{BreaksSignal, IsPinned}
use Rattle.cg_pinmux.specs.declared.map.PinMap.{PinMap}
use Rattle.cg_svspec.specs.Names.{Among}
use Rattle.cg_topspec.proofs.PartNames.{block_known}
use Rattle.cg_topspec.proofs.Relations.{item_of}
use Rattle.cg_topspec.proofs.TopLinks.{some_same}
use Rattle.cg_topspec.specs.Top.{instance_of, no_instance}
use Rattle.cg_topspec.specs.WellFormed.{FewBitsFollow}
use Rattle.cg_irq.specs.Violations as numbering
use Rattle.cg_pinmux.specs.Violations as pinning

-- an item of a list with a number below its length
with_number : {A : Type 0} (xs : List A) (x : A) → Among x xs → (i : ℕ) × (i < length xs) × (slice_get xs i ≡ Some x)
with_number xs x a = let n = item_number xs x a in (n.0, slice_get_within xs n.0 x n.1, n.1)

-- ---- interrupts and alerts

module _ (m : MergedTop) (merged : IsMerged m) where
  -- more bits than are allowed, of instances that are there, are too many with the last instance
  too_many_at_last : (Is : Bit → Type 0) → ((b : Bit) → Is b → b.inst < length m.top.insts) → (bits : List Bit) → AreBits Is bits → 1024 < length bits
      → (i : ℕ) × InstanceIs (design_of m) i (instance_of m i) × numbering.PassesLimit Is i
  too_many_at_last Is within [] are many = absurd (omega (arith, many))
  too_many_at_last Is within (b ∷ bits) are many =
      let first : b.inst < length m.top.insts = within b ((are.members b).0 (inl refl)) in
      let last : ℕ = length m.top.insts - 1 in
      let there : last < length m.top.insts = omega (arith, first) in (
        last,
        item_of m.top.insts last no_instance there,
        (
          b ∷ bits,
          record {
            members = λ c. (λ a. let is = (are.members c).0 a in (is, low (within c is)), λ is. (are.members c).1 is.0);
            in_order = are.in_order;
          },
          many,
        ),
      )
    where
      low : {k n : ℕ} → k < n → k ≤ n - 1
      low h = omega (arith, h)

  interrupt_within : (b : Bit) → IsInterruptBit m b → b.inst < length m.top.insts
  interrupt_within b is = (block_known m merged b.inst is.is.0 is.is.1).0

  alert_within : (b : Bit) → IsAlertBit m b → b.inst < length m.top.insts
  alert_within b is = (block_known m merged b.inst is.is.0 is.is.1).0

  few_interrupts : (numbers : IrqMap) → IsNumbering m numbers → length numbers.intr ≤ 1024
  few_interrupts numbers is = by (cases_lt 1024 (length numbers.intr)) where
    by : (1024 < length numbers.intr) ⊎ (length numbers.intr ≤ 1024) → length numbers.intr ≤ 1024
    by (inr few) = few
    by (inl many) =
        let broken = too_many_at_last (IsInterruptBit m) interrupt_within numbers.intr is.are_its.interrupts many in
        absurd (is.unbroken _ (numbering.Violates.too_many_interrupts broken.0 (instance_of m broken.0) broken.1 broken.2))

  few_alerts : (numbers : IrqMap) → IsNumbering m numbers → length numbers.alert ≤ 1024
  few_alerts numbers is = by (cases_lt 1024 (length numbers.alert)) where
    by : (1024 < length numbers.alert) ⊎ (length numbers.alert ≤ 1024) → length numbers.alert ≤ 1024
    by (inr few) = few
    by (inl many) =
        let broken = too_many_at_last (IsAlertBit m) alert_within numbers.alert is.are_its.alerts many in
        absurd (is.unbroken _ (numbering.Violates.too_many_alerts broken.0 (instance_of m broken.0) broken.1 broken.2))

-- ---- pins

-- the last use of a list of some
last_use : (bits : List SignalBit) → 0 < length bits → (u : SignalBit) × (slice_get bits (length bits - 1) ≡ Some u)
last_use bits some = item_at bits (length bits - 1) (omega (arith, some))

-- no use is of a later signal than the last
before_last : (Is : SignalBit → Type 0) (bits : List SignalBit) → AreSignalBits Is bits → (u : SignalBit) → slice_get bits (length bits - 1) ≡ Some u
    → (b : SignalBit) → Among b bits
    → b.signal ≤ u.signal
before_last Is bits are u last b a = by (with_number bits b a) where
  earlier : SignalBitBefore b u → b.signal ≤ u.signal
  earlier (inl less) = omega (arith, less)
  earlier (inr (same, later)) = omega (arith, same)

  at_number : (i : ℕ) → slice_get bits i ≡ Some b → (i < length bits - 1) ⊎ (length bits - 1 ≤ i) → i < length bits → b.signal ≤ u.signal
  at_number i at (inl less) within = earlier (are.in_order i (length bits - 1) b u at last less)
  at_number i at (inr from) within =
      let here : i ≡ length bits - 1 = omega (arith, from, within) in
      let same : b ≡ u = some_same b u (sym at ∙ (ap (slice_get bits) here ∙ last)) in
      let signal : b.signal ≡ u.signal = ap (λ (z : SignalBit). z.signal) same in omega (arith, signal)

  by : (i : ℕ) × (i < length bits) × (slice_get bits i ≡ Some b) → b.signal ≤ u.signal
  by (i, within, at) = at_number i at (cases_lt i (length bits - 1)) within

-- more bits than are allowed are too many with the last use
too_many_uses : (Is : SignalBit → Type 0) (bits : List SignalBit) → AreSignalBits Is bits → 65536 < length bits
    → (u : SignalBit) × Is u × pinning.PassesLimit Is u.signal
too_many_uses Is bits are many =
    let last = last_use bits (omega (arith, many)) in
    let u = last.0 in (
      u,
      (are.members u).0 (item_among bits (length bits - 1) u last.1),
      (
        bits,
        record {
          members = λ b. (λ a. ((are.members b).0 a, before_last Is bits are u last.1 b a), λ is. (are.members b).1 is.0);
          in_order = are.in_order;
        },
        many,
      ),
    )

few_numbered : (Is : SignalBit → Type 0) (bits : List Bit) → AreNumbered Is bits → ((u : SignalBit) → Is u → pinning.PassesLimit Is u.signal → ⊥)
    → length bits ≤ 65536
few_numbered Is bits are none_broken = by (cases_lt 65536 (length are.uses)) where
  long : length are.uses ≡ length bits
  long = sym (length-map are.uses (λ (u : SignalBit). u.bit)) ∙ ap length are.bits_are

  by : (65536 < length are.uses) ⊎ (length are.uses ≤ 65536) → length bits ≤ 65536
  by (inr few) = omega (arith, few, long)
  by (inl many) = let broken = too_many_uses Is are.uses are.just many in absurd (none_broken broken.0 broken.1 broken.2)

few_inputs : (m : MergedTop) (pins : PinMap) → IsPinned m pins → length pins.ins ≤ 65536
few_inputs m pins is =
    few_numbered (IsInput m) pins.ins is.are_its.inputs
    (λ u input many. is.unbroken _ (pinning.Violates.at_signal u.signal input.signal input.is (BreaksSignal.too_many_inputs input.muxed many)))

few_outputs : (m : MergedTop) (pins : PinMap) → IsPinned m pins → length pins.outs ≤ 65536
few_outputs m pins is =
    few_numbered (IsOutput m) pins.outs is.are_its.outputs
    (λ u output many. is.unbroken _ (pinning.Violates.at_signal u.signal output.signal output.is (BreaksSignal.too_many_outputs output.muxed many)))

pub few_bits_follow : FewBitsFollow
few_bits_follow m numbers pins merged numbering_is pins_are = record {
  interrupts = few_interrupts m merged numbers numbering_is;
  alerts = few_alerts m merged numbers numbering_is;
  inputs = few_inputs m pins pins_are;
  outputs = few_outputs m pins pins_are;
}
