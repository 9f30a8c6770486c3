-- A top has one map of pins, in which no bit and no pad stands twice.
use Rattle.std.proofs.Common.{◌≡◌, ◌≢◌, ◌<◌, ◌≤◌, ◌⊎◌, ℕ, List, map, Some, inl, inr, sym, ap, subst, ◌∙◌, arith}
use Rattle.std.specs.List.{slice_get}
use Rattle.cg_svspec.specs.Names.{Among}
use Rattle.std.proofs.lemmas.Bool.{cases_lt}
use Rattle.cg_desc.specs.declared.top.Joint.TheVariants.{Muxed, Direct, Manual}
use Rattle.cg_desc.specs.declared.top.MergedTop.{MergedTop}
use Rattle.cg_desc.specs.declared.top.SignalDesc.{SignalDesc}
use Rattle.cg_desc.proofs.Numbered.{image_of, item_among, item_number, same_item}
use Rattle.cg_irq.specs.declared.bits.Bit.{Bit}
use Rattle.cg_pinmux.specs.Laws.{AreApart, StandOnce, TieOnce}
use Rattle.cg_pinmux.specs.Pins.{AreNumbered, ArePadTies, ArePins, AreSignalBits, IsInput, IsOutput, IsPadTie, SignalBit, SignalBitBefore, SignalIs, SignalPad}
use Rattle.cg_pinmux.specs.Signals.{HasBit, HasPad}
use Rattle.cg_pinmux.specs.Violations.{BreaksSignal, IsPinned, Violates}
use Rattle.cg_pinmux.specs.declared.map.PadTie.{PadTie}
use Rattle.cg_pinmux.specs.declared.map.PinMap.{PinMap}
use Rattle.cg_pinmux.proofs.Lists.{InOrder, one_rising, rises_by_numbers}

-- ---- one list

-- two lists in order with the same members are one
one_in_order : {X : Type 0} (R : X → X → Type 0) → ((x y : X) → R x y → R y x → ⊥) → (xs ys : List X) → InOrder R xs → InOrder R ys
    → ((x : X) → Among x xs → Among x ys) → ((x : X) → Among x ys → Among x xs) → xs ≡ ys
one_in_order R once xs ys up down there back = one_rising R once xs ys (rises_by_numbers R xs up) (rises_by_numbers R ys down) there back

bits_apart : (a b : SignalBit) → SignalBitBefore a b → SignalBitBefore b a → ⊥
bits_apart a b (inl p) (inl q) = omega (arith, p, q)
bits_apart a b (inl p) (inr q) = omega (arith, p, q.0)
bits_apart a b (inr p) (inl q) = omega (arith, p.0, q)
bits_apart a b (inr (p, x)) (inr (q, y)) = by x y where
  by : (a.bit.item < b.bit.item) ⊎ ((a.bit.item ≡ b.bit.item) × (a.bit.bit < b.bit.bit))
      → (b.bit.item < a.bit.item) ⊎ ((b.bit.item ≡ a.bit.item) × (b.bit.bit < a.bit.bit)) → ⊥
  by (inl r) (inl s) = omega (arith, r, s)
  by (inl r) (inr s) = omega (arith, r, s.0)
  by (inr r) (inl s) = omega (arith, r.0, s)
  by (inr r) (inr s) = omega (arith, r.1, s.1)

-- just these bits in their order are one list
pub one_uses : (Is : SignalBit → Type 0) (xs ys : List SignalBit) → AreSignalBits Is xs → AreSignalBits Is ys → xs ≡ ys
one_uses Is xs ys a b = one_in_order SignalBitBefore bits_apart xs ys a.in_order b.in_order
    (λ x among. (b.members x).1 ((a.members x).0 among)) (λ x among. (a.members x).1 ((b.members x).0 among))

one_numbered : (Is : SignalBit → Type 0) (xs ys : List Bit) → AreNumbered Is xs → AreNumbered Is ys → xs ≡ ys
one_numbered Is xs ys a b = sym a.bits_are ∙ ap (map (λ (u : SignalBit). u.bit)) (one_uses Is a.uses b.uses a.just b.just) ∙ b.bits_are

one_pads : (m : MergedTop) (xs ys : List PadTie) → ArePadTies m xs → ArePadTies m ys → xs ≡ ys
one_pads m xs ys a b =
    let same : a.uses ≡ b.uses = one_in_order (λ (x y : SignalPad). x.signal < y.signal) (λ x y p q. omega (arith, p, q)) a.uses b.uses a.in_order b.in_order
    (λ x among. (b.members x).1 ((a.members x).0 among)) (λ x among. (a.members x).1 ((b.members x).0 among)) in
    sym a.ties_are ∙ ap (map (λ (u : SignalPad). u.tie)) same ∙ b.ties_are

pub one_map : (m : MergedTop) (a b : PinMap) → ArePins m a → ArePins m b → a ≡ b
one_map m a b p q =
    let ins : a.ins ≡ b.ins = one_numbered (IsInput m) a.ins b.ins p.inputs q.inputs in
    let outs : a.outs ≡ b.outs = one_numbered (IsOutput m) a.outs b.outs p.outputs q.outputs in
    let pads : a.pads ≡ b.pads = one_pads m a.pads b.pads p.pads q.pads in
    λ i. record { ins = ins i; outs = outs i; pads = pads i }

-- ---- no bit twice

-- nothing is broken at a signal
unbroken_at : (m : MergedTop) (pins : PinMap) → IsPinned m pins → (s : ℕ) (signal : SignalDesc) → SignalIs m s signal → BreaksSignal m s signal → ⊥
unbroken_at m pins p s signal is breaks = p.unbroken _ (Violates.at_signal s signal is breaks)

-- a signal that joins a bit
record Joins (m : MergedTop) (s : ℕ) (b : Bit) : Type 0 where
  signal : SignalDesc
  is : SignalIs m s signal
  joins : signal.joint ≢ Manual
  has : HasBit m signal b

input_joins : {m : MergedTop} (u : SignalBit) → IsInput m u → Joins m u.signal u.bit
input_joins u i = record { signal = i.signal; is = i.is; joins = λ e. let n : Muxed ≡ Manual = sym i.muxed ∙ e in cc; has = i.has }

output_joins : {m : MergedTop} (u : SignalBit) → IsOutput m u → Joins m u.signal u.bit
output_joins u i = record { signal = i.signal; is = i.is; joins = λ e. let n : Muxed ≡ Manual = sym i.muxed ∙ e in cc; has = i.has }

tie_joins : {m : MergedTop} (t : SignalPad) → IsPadTie m t → Joins m t.signal t.tie.bit
tie_joins t i = record { signal = i.signal; is = i.is; joins = λ e. let n : Direct ≡ Manual = sym i.direct ∙ e in cc; has = i.has }

later_breaks : (m : MergedTop) (pins : PinMap) → IsPinned m pins → (r s : ℕ) (b : Bit) → r < s → Joins m r b → Joins m s b → ⊥
later_breaks m pins p r s b less x y = unbroken_at m pins p s y.signal y.is (BreaksSignal.bit_twice r x.signal b less x.is x.joins y.joins x.has y.has)

-- so one signal alone joins a bit
one_joins : (m : MergedTop) (pins : PinMap) → IsPinned m pins → (r s : ℕ) (b : Bit) → Joins m r b → Joins m s b → r ≡ s
one_joins m pins p r s b x y = by (cases_lt r s) (cases_lt s r) where
  by : (r < s) ⊎ (s ≤ r) → (s < r) ⊎ (r ≤ s) → r ≡ s
  by (inl less) e = absurd (later_breaks m pins p r s b less x y)
  by (inr more) (inl less) = absurd (later_breaks m pins p s r b less y x)
  by (inr more) (inr most) = omega (arith, more, most)

-- equal bits in one signal stand at one place
same_place : (Is : SignalBit → Type 0) (uses : List SignalBit) → AreSignalBits Is uses → (i j : ℕ) (a b : SignalBit) → slice_get uses i ≡ Some a → slice_get uses j ≡ Some b → a ≡ b → i ≡ j
same_place Is uses are i j a b at_i at_j same = by (cases_lt i j) (cases_lt j i) where
  itself : SignalBitBefore a b → ⊥
  itself before = let own : SignalBitBefore b b = subst (λ (x : SignalBit). SignalBitBefore x b) same before in bits_apart b b own own

  itself' : SignalBitBefore b a → ⊥
  itself' before = let own : SignalBitBefore b b = subst (λ (x : SignalBit). SignalBitBefore b x) same before in bits_apart b b own own

  by : (i < j) ⊎ (j ≤ i) → (j < i) ⊎ (i ≤ j) → i ≡ j
  by (inl less) e = absurd (itself (are.in_order i j a b at_i at_j less))
  by (inr more) (inl less) = absurd (itself' (are.in_order j i b a at_j at_i less))
  by (inr more) (inr most) = omega (arith, more, most)

once : (m : MergedTop) (pins : PinMap) → IsPinned m pins → (Is : SignalBit → Type 0) → ((u : SignalBit) → Is u → Joins m u.signal u.bit) → (bits : List Bit) → AreNumbered Is bits → StandOnce bits
once m pins p Is joins bits are i j b at_i at_j =
    let x = image_of (λ (u : SignalBit). u.bit) are.uses i b (subst (λ (bs : List Bit). slice_get bs i ≡ Some b) (sym are.bits_are) at_i) in
    let y = image_of (λ (u : SignalBit). u.bit) are.uses j b (subst (λ (bs : List Bit). slice_get bs j ≡ Some b) (sym are.bits_are) at_j) in
    let bit_x : x.0.bit ≡ b = x.2 in
    let bit_y : y.0.bit ≡ b = y.2 in
    let is_x = (are.just.members x.0).0 (item_among are.uses i x.0 x.1) in
    let is_y = (are.just.members y.0).0 (item_among are.uses j y.0 y.1) in
    let signals : x.0.signal ≡ y.0.signal = one_joins m pins p x.0.signal y.0.signal b (subst (Joins m x.0.signal) bit_x (joins x.0 is_x)) (subst (Joins m y.0.signal) bit_y (joins y.0 is_y)) in
    let bits_same : x.0.bit ≡ y.0.bit = bit_x ∙ sym bit_y in
    let same : x.0 ≡ y.0 = (λ k. record { signal = signals k; bit = bits_same k }) in
    same_place Is are.uses are.just i j x.0 y.0 x.1 y.1 same

pub inputs_once : (m : MergedTop) (pins : PinMap) → IsPinned m pins → StandOnce pins.ins
inputs_once m pins p = once m pins p (IsInput m) input_joins pins.ins p.are_its.inputs

pub outputs_once : (m : MergedTop) (pins : PinMap) → IsPinned m pins → StandOnce pins.outs
outputs_once m pins p = once m pins p (IsOutput m) output_joins pins.outs p.are_its.outputs

-- ---- pads

-- a tie with its signal
record HasTie (m : MergedTop) (ties : List PadTie) (are : ArePadTies m ties) (i : ℕ) (t : PadTie) : Type 0 where
  use_is : SignalPad
  at : slice_get are.uses i ≡ Some use_is
  tie : use_is.tie ≡ t
  is : IsPadTie m use_is

tie_at : (m : MergedTop) (ties : List PadTie) (are : ArePadTies m ties) (i : ℕ) (t : PadTie) → slice_get ties i ≡ Some t → HasTie m ties are i t
tie_at m ties are i t at_i =
    let x = image_of (λ (u : SignalPad). u.tie) are.uses i t (subst (λ (ts : List PadTie). slice_get ts i ≡ Some t) (sym are.ties_are) at_i) in
    record { use_is = x.0; at = x.1; tie = x.2; is = (are.members x.0).0 (item_among are.uses i x.0 x.1) }

-- ties of one signal stand at one place
tie_place : (m : MergedTop) (ties : List PadTie) (are : ArePadTies m ties) (i j : ℕ) (a b : SignalPad) → slice_get are.uses i ≡ Some a → slice_get are.uses j ≡ Some b → a.signal ≡ b.signal → i ≡ j
tie_place m ties are i j a b at_i at_j same = by (cases_lt i j) (cases_lt j i) where
  by : (i < j) ⊎ (j ≤ i) → (j < i) ⊎ (i ≤ j) → i ≡ j
  by (inl less) e = absurd (let before = are.in_order i j a b at_i at_j less in omega (arith, before, same))
  by (inr more) (inl less) = absurd (let before = are.in_order j i b a at_j at_i less in omega (arith, before, same))
  by (inr more) (inr most) = omega (arith, more, most)

later_pad : (m : MergedTop) (pins : PinMap) → IsPinned m pins → (a b : SignalPad) → a.signal < b.signal → IsPadTie m a → IsPadTie m b → a.tie.pad ≡ b.tie.pad → ⊥
later_pad m pins p a b less x y same =
    unbroken_at m pins p b.signal y.signal y.is
    (BreaksSignal.pad_twice a.signal b.tie.pad x.signal less x.is x.direct y.direct (subst (HasPad m x.signal) same x.pad) y.pad)

pub ties_once : (m : MergedTop) (pins : PinMap) → IsPinned m pins → TieOnce pins.pads
ties_once m pins p = record { pads = pads; bits = bits } where
  are : ArePadTies m pins.pads
  are = p.are_its.pads

  pads : (i j : ℕ) (a b : PadTie) → slice_get pins.pads i ≡ Some a → slice_get pins.pads j ≡ Some b → a.pad ≡ b.pad → i ≡ j
  pads i j a b at_i at_j same =
      let x = tie_at m pins.pads are i a at_i in
      let y = tie_at m pins.pads are j b at_j in
      let one : x.use_is.tie.pad ≡ y.use_is.tie.pad = ap (λ (t : PadTie). t.pad) x.tie ∙ same ∙ sym (ap (λ (t : PadTie). t.pad) y.tie) in
      by x y one (cases_lt x.use_is.signal y.use_is.signal) (cases_lt y.use_is.signal x.use_is.signal)
    where
      by : (x : HasTie m pins.pads are i a) (y : HasTie m pins.pads are j b) → x.use_is.tie.pad ≡ y.use_is.tie.pad
          → (x.use_is.signal < y.use_is.signal) ⊎ (y.use_is.signal ≤ x.use_is.signal) → (y.use_is.signal < x.use_is.signal) ⊎ (x.use_is.signal ≤ y.use_is.signal) → i ≡ j
      by x y one (inl less) e = absurd (later_pad m pins p x.use_is y.use_is less x.is y.is one)
      by x y one (inr more) (inl less) = absurd (later_pad m pins p y.use_is x.use_is less y.is x.is (sym one))
      by x y one (inr more) (inr most) = tie_place m pins.pads are i j x.use_is y.use_is x.at y.at (omega (arith, more, most))

  bits : (i j : ℕ) (a b : PadTie) → slice_get pins.pads i ≡ Some a → slice_get pins.pads j ≡ Some b → a.bit ≡ b.bit → i ≡ j
  bits i j a b at_i at_j same =
      let x = tie_at m pins.pads are i a at_i in
      let y = tie_at m pins.pads are j b at_j in
      let bit_x : x.use_is.tie.bit ≡ b.bit = ap (λ (t : PadTie). t.bit) x.tie ∙ same in
      let bit_y : y.use_is.tie.bit ≡ b.bit = ap (λ (t : PadTie). t.bit) y.tie in
      let signals : x.use_is.signal ≡ y.use_is.signal = one_joins m pins p x.use_is.signal y.use_is.signal b.bit
      (subst (Joins m x.use_is.signal) bit_x (tie_joins x.use_is x.is)) (subst (Joins m y.use_is.signal) bit_y (tie_joins y.use_is y.is)) in
      tie_place m pins.pads are i j x.use_is y.use_is x.at y.at signals

-- ---- pads and numbers

-- a signal that ties a bit is not muxed
apart : (m : MergedTop) (pins : PinMap) → IsPinned m pins → (Is : SignalBit → Type 0) → ((u : SignalBit) → Is u → Joins m u.signal u.bit)
    → ((u : SignalBit) → Is u → (signal : SignalDesc) × SignalIs m u.signal signal × (signal.joint ≡ Muxed)) → (bits : List Bit) → AreNumbered Is bits → AreApart pins.pads bits
apart m pins p Is joins muxed bits are t among_t among_b =
    let i = item_number pins.pads t among_t in
    let j = item_number bits t.bit among_b in
    let x = tie_at m pins.pads p.are_its.pads i.0 t i.1 in
    let y = image_of (λ (u : SignalBit). u.bit) are.uses j.0 t.bit (subst (λ (bs : List Bit). slice_get bs j.0 ≡ Some t.bit) (sym are.bits_are) j.1) in
    let bit_x : x.use_is.tie.bit ≡ t.bit = ap (λ (u : PadTie). u.bit) x.tie in
    let is_y = (are.just.members y.0).0 (item_among are.uses j.0 y.0 y.1) in
    let signals : x.use_is.signal ≡ y.0.signal = one_joins m pins p x.use_is.signal y.0.signal t.bit
    (subst (Joins m x.use_is.signal) bit_x (tie_joins x.use_is x.is)) (subst (Joins m y.0.signal) y.2 (joins y.0 is_y)) in
    let mux = muxed y.0 is_y in
    let same : x.is.signal ≡ mux.0 = same_item m.top.signals y.0.signal x.is.signal mux.0 (subst (λ (s : ℕ). SignalIs m s x.is.signal) signals x.is.is) mux.1 in
    let e : Direct ≡ Muxed = sym x.is.direct ∙ ap (λ (s : SignalDesc). s.joint) same ∙ mux.2 in
    cc

pub inputs_apart : (m : MergedTop) (pins : PinMap) → IsPinned m pins → AreApart pins.pads pins.ins
inputs_apart m pins p = apart m pins p (IsInput m) input_joins (λ u i. (i.signal, i.is, i.muxed)) pins.ins p.are_its.inputs

pub outputs_apart : (m : MergedTop) (pins : PinMap) → IsPinned m pins → AreApart pins.pads pins.outs
outputs_apart m pins p = apart m pins p (IsOutput m) output_joins (λ u i. (i.signal, i.is, i.muxed)) pins.outs p.are_its.outputs
