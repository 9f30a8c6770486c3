-- Which nets the bits of a top's vectors and of its ports that take bits in are bits of.
use Rattle.std.proofs.Common.{Bool, List, None, Option, Some, [], arith, codes, cond, eqb, false, inl, inr, length, refl, slice_get, subst, suc, sym, true, ℕ, ◌&&◌, ◌+◌, ◌<◌, ◌∷◌, ◌≡◌}
use Rattle.std.proofs.lemmas.Option.{slice_get_within}
use Rattle.cg_clkrst.specs.declared.tie.Tie.{Tie}
use Rattle.cg_desc.proofs.Numbered.{item_among}
use Rattle.cg_desc.specs.Merged.{BlockAt, IsMerged}
use Rattle.cg_desc.specs.declared.block.AlertDesc.{AlertDesc}
use Rattle.cg_desc.specs.declared.block.IntrDesc.{IntrDesc}
use Rattle.cg_desc.specs.declared.block.IoDesc.{IoDesc}
use Rattle.cg_desc.specs.declared.block.IoDir.{IoDir}
use Rattle.cg_desc.specs.declared.block.IoDir.TheVariants.{In, InOut, Out}
use Rattle.cg_desc.specs.declared.block.LaidBlock.{LaidBlock}
use Rattle.cg_desc.specs.declared.top.MergedTop.{MergedTop}
use Rattle.cg_irq.specs.declared.bits.Bit.{Bit}
use Rattle.cg_irq.specs.declared.bits.IrqMap.{IrqMap}
use Rattle.cg_pinmux.specs.Pins.{IsPadTie, SignalBit, SignalPad}
use Rattle.cg_pinmux.specs.Signals.{NamesBit}
use Rattle.cg_pinmux.specs.declared.map.PadTie.{PadTie}
use Rattle.cg_pinmux.specs.declared.map.PinMap.{PinMap}
use Rattle.cg_svspec.specs.Names.{Among}
use Rattle.cg_svspec.specs.Tree.{Expression, lit}
use Rattle.cg_topspec.proofs.ListLemmas.{from_map}
use Rattle.cg_topspec.proofs.Nets.{in_those}
use Rattle.cg_topspec.proofs.PartNames.{block_known, port_among}
use Rattle.cg_topspec.proofs.Relations.{get_or_is}
use Rattle.cg_topspec.specs.Fits.{FitsTop}
use Rattle.cg_topspec.specs.Nets.{Pin, alert_bit, alert_net, bit_at, gives_out, interrupt_bit, interrupt_net, no_alert, no_interrupt, no_port, numbered, output_pins, pin_output_bit, pin_output_net, port_of}
use Rattle.cg_topspec.specs.Top.{block_of, instance_of}
use Rattle.cg_topspec.specs.TopModule.{is_bit, muxed_number, pad_driver, pad_number, pin_source}

-- the vectors of pins that go in
pub data IsVectorIn (m : MergedTop) (pins : PinMap) : List ℕ → ℕ → Type 0 where
  of_inputs : 0 < length pins.ins → IsVectorIn m pins (codes "mio_in") (length pins.ins)
  of_pads : 0 < length m.top.pads → IsVectorIn m pins (codes "pad_in") (length m.top.pads)

-- the nets of what instances give out
pub data IsGiven (m : MergedTop) : List ℕ → ℕ → Type 0 where
  of_interrupt : (i : ℕ) (x : IntrDesc) → i < length m.top.insts → Among x (block_of m i).desc.intrs
      → IsGiven m (interrupt_net (instance_of m i).name x) x.width
  of_alert : (i : ℕ) (x : AlertDesc) → i < length m.top.insts → Among x (block_of m i).desc.alerts → IsGiven m (alert_net (instance_of m i).name x) 1
  of_output : (i : ℕ) (p : Pin) → i < length m.top.insts → Among p (output_pins (block_of m i))
      → IsGiven m (pin_output_net (instance_of m i).name p.port) p.port.width

-- the expression is a bit of a net of such a name and width, or 0
pub data IsBit (P : List ℕ → ℕ → Type 0) : Expression → Type 0 where
  nought : IsBit P (lit 1 0)
  bit_of : (name : List ℕ) (width k : ℕ) → P name width → k < width → IsBit P (bit_at name width k)

-- ---- what a number names

-- a bit that a signal names is one of a port
pub record IsPortBitOf (ios : List IoDesc) (p k : ℕ) : Type 0 where
  pub port : IoDesc
  pub is : slice_get ios p ≡ Some port
  pub within : k < port.width

named_port : (ios : List IoDesc) (name : List ℕ) (p k : ℕ) → NamesBit ios name p k → IsPortBitOf ios p k
named_port ios name p k (NamesBit.of_all _ _ io at less) = record { port = io; is = at; within = less }
named_port ios name p k (NamesBit.of_port _ _ _ has) = record { port = has.port; is = has.is; within = has.within }
named_port ios name p k (NamesBit.one _ _ _ has) = record { port = has.port; is = has.is; within = has.within }

muxed_below : (b : Bit) (k : ℕ) (bs : List Bit) (n : ℕ) → muxed_number b k bs ≡ Some n → n < k + length bs
muxed_below b k [] n e = absurd cc
muxed_below b k (c ∷ cs) n e = by (is_bit c b) (muxed_below b (suc k) cs n) e where
  by : (t : Bool) → (muxed_number b (suc k) cs ≡ Some n → n < suc k + length cs) → cond t (Some k) (muxed_number b (suc k) cs) ≡ Some n
      → n < k + suc (length cs)
  by true later e = let same : k ≡ n = cc in omega (arith, same)
  by false later e = let low = later e in omega (arith, low)

pad_tied : (b : Bit) (ts : List PadTie) (n : ℕ) → pad_number b ts ≡ Some n → (t : PadTie) × Among t ts × (t.pad ≡ n)
pad_tied b [] n e = absurd cc
pad_tied b (t ∷ ts) n e = by (is_bit t.bit b) (pad_tied b ts n) e where
  by : (c : Bool) → (pad_number b ts ≡ Some n → (s : PadTie) × Among s ts × (s.pad ≡ n)) → cond c (Some t.pad) (pad_number b ts) ≡ Some n
      → (s : PadTie) × Among s (t ∷ ts) × (s.pad ≡ n)
  by true later e = (t, inl refl, cc)
  by false later e = let h = later e in (h.0, inr h.1, h.2)

out_or_in : (dir : IoDir) → (dir ≡ In → ⊥) → gives_out dir ≡ true
out_or_in In h = absurd (h refl)
out_or_in Out h = refl
out_or_in InOut h = refl

module _ (m : MergedTop) (numbers : IrqMap) (ties : List Tie) (pins : PinMap) (fits : FitsTop m numbers ties pins) where
  merged : IsMerged m
  merged = fits.merged

  pub interrupt_is_bit : (b : Bit) → Among b numbers.intr → IsBit (IsGiven m) (interrupt_bit m b)
  interrupt_is_bit b a =
      let is = (fits.numbers_are.interrupts.members b).0 a in
      let known = block_known m merged b.inst is.is.0 is.is.1 in
      let at : slice_get (block_of m b.inst).desc.intrs b.item ≡ Some is.interrupt = subst (λ
      (k : LaidBlock). slice_get k.desc.intrs b.item ≡ Some is.interrupt) (sym known.1) is.is.2 in
      rw (get_or_is (block_of m b.inst).desc.intrs b.item no_interrupt is.interrupt at)
      (bit_of (interrupt_net (instance_of m b.inst).name is.interrupt) is.interrupt.width b.bit
      (of_interrupt b.inst is.interrupt known.0 (item_among (block_of m b.inst).desc.intrs b.item is.interrupt at)) is.within)

  pub alert_is_bit : (b : Bit) → Among b numbers.alert → IsBit (IsGiven m) (alert_bit m b)
  alert_is_bit b a =
      let is = (fits.numbers_are.alerts.members b).0 a in
      let known = block_known m merged b.inst is.is.0 is.is.1 in
      let at : slice_get (block_of m b.inst).desc.alerts b.item ≡ Some is.alert = subst (λ (k : LaidBlock). slice_get k.desc.alerts b.item ≡ Some is.alert)
      (sym known.1) is.is.2 in
      rw (get_or_is (block_of m b.inst).desc.alerts b.item no_alert is.alert at)
      (bit_of (alert_net (instance_of m b.inst).name is.alert) 1 0
      (of_alert b.inst is.alert known.0 (item_among (block_of m b.inst).desc.alerts b.item is.alert at)) (omega arith))

  -- a bit of a port that gives bits out
  out_is_bit : (b : Bit) (block : LaidBlock) → BlockAt m b.inst block → (p : IsPortBitOf block.desc.ios b.item b.bit) → gives_out p.port.dir ≡ true
      → IsBit (IsGiven m) (pin_output_bit m b)
  out_is_bit b block block_at p out =
      let known = block_known m merged b.inst block block_at in
      let at : slice_get (block_of m b.inst).desc.ios b.item ≡ Some p.port = subst (λ (k : LaidBlock). slice_get k.desc.ios b.item ≡ Some p.port)
      (sym known.1) p.is in
      rw (get_or_is (block_of m b.inst).desc.ios b.item no_port p.port at)
      (bit_of (pin_output_net (instance_of m b.inst).name p.port) p.port.width b.bit
      (of_output b.inst (record { number = b.item; port = p.port }) known.0
      (in_those (λ (q : Pin). gives_out q.port.dir) (numbered 0 (block_of m b.inst).desc.ios) (record { number = b.item; port = p.port })
      (port_among (block_of m b.inst).desc.ios b.item p.port at) out)) p.within)

  pub output_is_bit : (b : Bit) → Among b pins.outs → IsBit (IsGiven m) (pin_output_bit m b)
  output_is_bit b a =
      let uses = fits.pins_are.outputs in
      let from = from_map (λ (u : SignalBit). u.bit) uses.uses b (subst (Among b) (sym uses.bits_are) a) in
      let is = (uses.just.members from.0).0 from.1 in
      subst (λ c. IsBit (IsGiven m) (pin_output_bit m c)) (sym from.2)
      (out_is_bit from.0.bit is.of_port.block is.of_port.block_is (record {
        port = is.port;
        is = is.of_port.is;
        within = is.of_port.within;
      }) (out_or_in is.port.dir is.direction))

  -- what a tie to a pad has
  tie_has : (t : PadTie) → Among t pins.pads → (u : SignalPad) × IsPadTie m u × (t ≡ u.tie)
  tie_has t a =
      let uses = fits.pins_are.pads in
      let from = from_map (λ (u : SignalPad). u.tie) uses.uses t (subst (Among t) (sym uses.ties_are) a) in
      (from.0, (uses.members from.0).0 from.1, from.2)

  pad_below : (t : PadTie) → Among t pins.pads → t.pad < length m.top.pads
  pad_below t a =
      let has = tie_has t a in
      subst (λ (s : PadTie). s.pad < length m.top.pads) (sym has.2) (slice_get_within m.top.pads has.0.tie.pad has.1.pad.name has.1.pad.first.is)

  driver_is_bit : (pad : ℕ) (ts : List PadTie) → ((t : PadTie) → Among t ts → Among t pins.pads) → IsBit (IsGiven m) (pad_driver m pad ts)
  driver_is_bit pad [] all = nought
  driver_is_bit pad (t ∷ ts) all =
      by (eqb t.pad pad) (gives_out (port_of m t.bit).dir) refl (driver_is_bit pad ts (λ s a. all s (inr a))) where
        here : gives_out (port_of m t.bit).dir ≡ true → IsBit (IsGiven m) (pin_output_bit m t.bit)
        here out =
            let has = tie_has t (all t (inl refl)) in
            let names = has.1.has in
            let block_at : BlockAt m t.bit.inst names.block = subst (λ (s : PadTie). BlockAt m s.bit.inst names.block) (sym has.2) names.block_is in
            let p : IsPortBitOf names.block.desc.ios t.bit.item t.bit.bit =
            subst (λ (s : PadTie). IsPortBitOf names.block.desc.ios s.bit.item s.bit.bit) (sym has.2)
            (named_port names.block.desc.ios has.1.signal.port has.0.tie.bit.item has.0.tie.bit.bit names.names) in
            let known = block_known m merged t.bit.inst names.block block_at in
            let port : port_of m t.bit ≡ p.port =
            get_or_is (block_of m t.bit.inst).desc.ios t.bit.item no_port p.port
            (subst (λ (k : LaidBlock). slice_get k.desc.ios t.bit.item ≡ Some p.port) (sym known.1) p.is) in
            out_is_bit t.bit names.block block_at p (subst (λ (q : IoDesc). gives_out q.dir ≡ true) port out)

        by : (same out : Bool) → gives_out (port_of m t.bit).dir ≡ out → IsBit (IsGiven m) (pad_driver m pad ts)
            → IsBit (IsGiven m) (cond (same && out) (pin_output_bit m t.bit) (pad_driver m pad ts))
        by true true e later = here e
        by true false e later = later
        by false out e later = later

  pub pad_is_bit : (pad : ℕ) → IsBit (IsGiven m) (pad_driver m pad pins.pads)
  pad_is_bit pad = driver_is_bit pad pins.pads (λ t a. a)

  pub source_is_bit : (b : Bit) → IsBit (IsVectorIn m pins) (pin_source m pins b)
  source_is_bit b = by (muxed_number b 0 pins.ins) refl (pad_number b pins.pads) refl where
    by : (o : Option ℕ) → muxed_number b 0 pins.ins ≡ o → (q : Option ℕ) → pad_number b pins.pads ≡ q → IsBit (IsVectorIn m pins) (pin_source m pins b)
    by (Some k) e q f =
        let low = muxed_below b 0 pins.ins k e in
        rw e (bit_of (codes "mio_in") (length pins.ins) k (of_inputs (omega (arith, low))) (omega (arith, low)))
    by None e (Some pad) f =
        let tie = pad_tied b pins.pads pad f in
        let low : pad < length m.top.pads = subst (λ n. n < length m.top.pads) tie.2 (pad_below tie.0 tie.1) in
        rw (e, f) (bit_of (codes "pad_in") (length m.top.pads) pad (of_pads (omega (arith, low))) low)
    by None e None f = rw (e, f) nought
