-- The definitions of a top's bits, of interrupts, alerts and ports: each is good, and is the number of a bit; and all of those are there.
use Rattle.std.proofs.Common.{◌≡◌, ℕ, suc, ◌<◌, ◌^◌, List, ◌++◌, get_or, length, Some, sym, ap, subst, ◌∙◌, arith, codes, refl}
use Rattle.std.specs.List.{slice_get}
use Rattle.std.proofs.lemmas.Option.{slice_get_within}
use Rattle.cg_desc.proofs.Numbered.{image_of, item_among}
use Rattle.cg_desc.specs.Ends.{InstanceIs}
use Rattle.cg_desc.specs.Merged.{BlockAt, IsMerged, design_of}
use Rattle.cg_desc.specs.Valid.{AreValidPins, IsShortName, IsValidAlert, IsValidInterrupt, IsValidPin}
use Rattle.cg_desc.specs.declared.block.AlertDesc.{AlertDesc}
use Rattle.cg_desc.specs.declared.block.IntrDesc.{IntrDesc}
use Rattle.cg_desc.specs.declared.block.IoDesc.{IoDesc}
use Rattle.cg_desc.specs.declared.block.IoDir.TheVariants.{In, Out, InOut}
use Rattle.cg_desc.specs.declared.block.LaidBlock.{LaidBlock}
use Rattle.cg_desc.specs.declared.top.InstDesc.{InstDesc}
use Rattle.cg_desc.specs.declared.top.MergedTop.{MergedTop}
use Rattle.cg_hdrspec.specs.BlockHeader.{Definition, in_decimal}
use Rattle.cg_irq.specs.Numbers.{AlertAt, AreNumbers, InterruptAt}
use Rattle.cg_irq.specs.declared.bits.Bit.{Bit}
use Rattle.cg_irq.specs.declared.bits.IrqMap.{IrqMap}
use Rattle.cg_pinmux.proofs.Lists.{all_at, all_both, all_weaker}
use Rattle.cg_pinmux.specs.Pins.{AreNumbered, ArePins, IsInput, IsOutput, IsPortBit, SignalBit}
use Rattle.cg_pinmux.specs.declared.map.PinMap.{PinMap}
use Rattle.cg_svspec.specs.Characters.{IsWord}
use Rattle.cg_svspec.specs.Names.{Among}
use Rattle.cg_svspec.specs.Printable.{AllOf}
use Rattle.cg_topspec.proofs.Relations.{get_or_is}
use Rattle.cg_topspec.specs.Nets.{no_alert, no_interrupt, no_port, port_of}
use Rattle.cg_topspec.specs.Top.{block_of, instance_of}
use Rattle.cg_tophdr.proofs.Instances.{block_is, instance_is, instance_there, instance_word, top_word, valid_laid}
use Rattle.cg_tophdr.proofs.Interfaces.{IsRight}
use Rattle.cg_tophdr.proofs.NamesAreWords.{kind_word}
use Rattle.cg_tophdr.proofs.Numbered.{is_numbered}
use Rattle.cg_tophdr.specs.Laws.{NumbersFit}
use Rattle.cg_tophdr.specs.Meaning.{IsPinConstant, IsTopConstant}
use Rattle.cg_tophdr.specs.TopHeader.{alert_definition, bit_name, interrupt_definition, numbered_from, pin_definition}

-- ---- what a bit is of

module _ (m : MergedTop) where
  interrupt_is : (b : Bit) (interrupt : IntrDesc) → InterruptAt m b.inst b.item interrupt → get_or (block_of m b.inst).desc.intrs b.item no_interrupt ≡ interrupt
  interrupt_is b interrupt at =
      ap (λ (block : LaidBlock). get_or block.desc.intrs b.item no_interrupt) (block_is m b.inst at.0 at.1) ∙ get_or_is at.0.desc.intrs b.item no_interrupt interrupt at.2

  alert_is : (b : Bit) (alert : AlertDesc) → AlertAt m b.inst b.item alert → get_or (block_of m b.inst).desc.alerts b.item no_alert ≡ alert
  alert_is b alert at =
      ap (λ (block : LaidBlock). get_or block.desc.alerts b.item no_alert) (block_is m b.inst at.0 at.1) ∙ get_or_is at.0.desc.alerts b.item no_alert alert at.2

  port_is : (b : Bit) (port : IoDesc) → IsPortBit m b port → port_of m b ≡ port
  port_is b port is =
      ap (λ (block : LaidBlock). get_or block.desc.ios b.item no_port) (block_is m b.inst is.block is.block_is) ∙ get_or_is is.block.desc.ios b.item no_port port is.is

  -- ---- their definitions

  pub interrupt_defined : (n : ℕ) (b : Bit) (inst : InstDesc) (interrupt : IntrDesc) → InstanceIs (design_of m) b.inst inst → InterruptAt m b.inst b.item interrupt
      → interrupt_definition m n b ≡ in_decimal (bit_name m.top.name (codes "IRQ") inst.name interrupt.name interrupt.width b.bit) n
  unfolding interrupt_definition
  interrupt_defined n b inst interrupt there at =
      ap (λ (i : IntrDesc). in_decimal (bit_name m.top.name (codes "IRQ") (instance_of m b.inst).name i.name i.width b.bit) n) (interrupt_is b interrupt at)
      ∙ ap (λ (j : InstDesc). in_decimal (bit_name m.top.name (codes "IRQ") j.name interrupt.name interrupt.width b.bit) n) (instance_is m b.inst inst there)

  pub alert_defined : (n : ℕ) (b : Bit) (inst : InstDesc) (alert : AlertDesc) → InstanceIs (design_of m) b.inst inst → AlertAt m b.inst b.item alert
      → alert_definition m n b ≡ in_decimal (bit_name m.top.name (codes "ALERT") inst.name alert.name 1 b.bit) n
  unfolding alert_definition
  alert_defined n b inst alert there at =
      ap (λ (a : AlertDesc). in_decimal (bit_name m.top.name (codes "ALERT") (instance_of m b.inst).name a.name 1 b.bit) n) (alert_is b alert at)
      ∙ ap (λ (j : InstDesc). in_decimal (bit_name m.top.name (codes "ALERT") j.name alert.name 1 b.bit) n) (instance_is m b.inst inst there)

  pub pin_defined : (kind : List ℕ) (n : ℕ) (b : Bit) (inst : InstDesc) (port : IoDesc) → InstanceIs (design_of m) b.inst inst → IsPortBit m b port
      → pin_definition kind m n b ≡ in_decimal (bit_name m.top.name kind inst.name port.name port.width b.bit) n
  unfolding pin_definition
  pin_defined kind n b inst port there is =
      ap (λ (p : IoDesc). in_decimal (bit_name m.top.name kind (instance_of m b.inst).name p.name p.width b.bit) n) (port_is b port is)
      ∙ ap (λ (j : InstDesc). in_decimal (bit_name m.top.name kind j.name port.name port.width b.bit) n) (instance_is m b.inst inst there)

-- ---- their names

short_ports : (ports : List IoDesc) → AreValidPins ports → AllOf (λ p. IsShortName p.name) ports
short_ports ports valid =
    subst (AllOf (λ p. IsShortName p.name)) (sym valid.stand)
    (all_both (λ p. IsShortName p.name) valid.inputs (valid.outputs ++ valid.inouts) (all_weaker (IsValidPin In) (λ p. IsShortName p.name) valid.inputs (λ p is. is.name) valid.valid_inputs)
    (all_both (λ p. IsShortName p.name) valid.outputs valid.inouts (all_weaker (IsValidPin Out) (λ p. IsShortName p.name) valid.outputs (λ p is. is.name) valid.valid_outputs)
    (all_weaker (IsValidPin InOut) (λ p. IsShortName p.name) valid.inouts (λ p is. is.name) valid.valid_inouts)))

module _ (m : MergedTop) (merged : IsMerged m) where
  interrupt_word : (i k : ℕ) (interrupt : IntrDesc) → InterruptAt m i k interrupt → IsWord interrupt.name
  interrupt_word i k interrupt at = (all_at IsValidInterrupt at.0.desc.intrs k interrupt (valid_laid m merged i at.0 at.1).block.interrupts at.2).name

  alert_word : (i k : ℕ) (alert : AlertDesc) → AlertAt m i k alert → IsWord alert.name
  alert_word i k alert at = all_at IsValidAlert at.0.desc.alerts k alert (valid_laid m merged i at.0 at.1).block.alerts at.2

  port_word : (b : Bit) (port : IoDesc) → IsPortBit m b port → IsWord port.name
  port_word b port is =
      (all_at (λ p. IsShortName p.name) is.block.desc.ios b.item port (short_ports is.block.desc.ios (valid_laid m merged b.inst is.block is.block_is).block.pins) is.is).0.0

  inst_of : (i : ℕ) (block : LaidBlock) → BlockAt m i block → InstanceIs (design_of m) i (instance_of m i)
  inst_of i block at = instance_there m merged i block at

  inst_word : (i : ℕ) (block : LaidBlock) → BlockAt m i block → IsWord (instance_of m i).name
  inst_word i block at = instance_word m merged i (instance_of m i) (inst_of i block at)

  -- ---- each is right

  module _ (numbers : IrqMap) (pins : PinMap) (fit : NumbersFit numbers pins) where
    pub interrupts_right : AreNumbers m numbers → (d : Definition) → Among d (numbered_from (interrupt_definition m) 1 numbers.intr) → IsRight m numbers pins d
    interrupts_right are d among =
        let one = is_numbered (interrupt_definition m) 1 numbers.intr d among in
        let of = (are.interrupts.members one.bit).0 (item_among numbers.intr one.k one.bit one.there) in
        let less : one.k < length numbers.intr = slice_get_within numbers.intr one.k one.bit one.there in
        let there = inst_of one.bit.inst of.is.0 of.is.1 in
        let number : one.number ≡ suc one.k = omega (arith, one.number_is) in
        let is = one.is ∙ ap (λ n. interrupt_definition m n one.bit) number ∙ interrupt_defined m (suc one.k) one.bit (instance_of m one.bit.inst) of.interrupt there of.is in
        subst (IsRight m numbers pins) (sym is)
        (record {
          good = (
            kind_word m.top.name (codes "IRQ") (instance_of m one.bit.inst).name of.interrupt.name of.interrupt.width one.bit.bit (top_word m merged) (refl, (refl, (refl, tt)))
                (inst_word one.bit.inst of.is.0 of.is.1) (interrupt_word one.bit.inst one.bit.item of.interrupt of.is),
            omega (arith, less, fit.interrupts),
          );
          means = IsTopConstant.interrupt one.k one.bit (instance_of m one.bit.inst) of.interrupt one.there there of.is;
        })

    pub alerts_right : AreNumbers m numbers → (d : Definition) → Among d (numbered_from (alert_definition m) 0 numbers.alert) → IsRight m numbers pins d
    alerts_right are d among =
        let one = is_numbered (alert_definition m) 0 numbers.alert d among in
        let of = (are.alerts.members one.bit).0 (item_among numbers.alert one.k one.bit one.there) in
        let less : one.k < length numbers.alert = slice_get_within numbers.alert one.k one.bit one.there in
        let there = inst_of one.bit.inst of.is.0 of.is.1 in
        let number : one.number ≡ one.k = omega (arith, one.number_is) in
        let is = one.is ∙ ap (λ n. alert_definition m n one.bit) number ∙ alert_defined m one.k one.bit (instance_of m one.bit.inst) of.alert there of.is in
        subst (IsRight m numbers pins) (sym is)
        (record {
          good = (
            kind_word m.top.name (codes "ALERT") (instance_of m one.bit.inst).name of.alert.name 1 one.bit.bit (top_word m merged) (refl, (refl, (refl, (refl, (refl, tt)))))
                (inst_word one.bit.inst of.is.0 of.is.1) (alert_word one.bit.inst one.bit.item of.alert of.is),
            omega (arith, less, fit.alerts),
          );
          means = IsTopConstant.alert one.k one.bit (instance_of m one.bit.inst) of.alert one.there there of.is;
        })

    -- pins in one direction, whose bits are bits of ports
    pins_right : (kind : List ℕ) (bits : List Bit) → IsWord kind → length bits < 2 ^ 32 → ((n : ℕ) (b : Bit) → slice_get bits n ≡ Some b → (port : IoDesc) × IsPortBit m b port)
        → ((c : _) → IsPinConstant m kind bits c → IsTopConstant m numbers pins c) → (d : Definition) → Among d (numbered_from (pin_definition kind m) 0 bits) → IsRight m numbers pins d
    pins_right kind bits word few ports up d among =
        let one = is_numbered (pin_definition kind m) 0 bits d among in
        let of = ports one.k one.bit one.there in
        let less : one.k < length bits = slice_get_within bits one.k one.bit one.there in
        let there = inst_of one.bit.inst of.1.block of.1.block_is in
        let number : one.number ≡ one.k = omega (arith, one.number_is) in
        let is = one.is ∙ ap (λ n. pin_definition kind m n one.bit) number ∙ pin_defined m kind one.k one.bit (instance_of m one.bit.inst) of.0 there of.1 in
        subst (IsRight m numbers pins) (sym is)
        (record {
          good = (
            kind_word m.top.name kind (instance_of m one.bit.inst).name of.0.name of.0.width one.bit.bit (top_word m merged) word (inst_word one.bit.inst of.1.block of.1.block_is)
                (port_word one.bit of.0 of.1),
            omega (arith, less, few),
          );
          means = up _ (IsPinConstant.pin one.k one.bit (instance_of m one.bit.inst) of.0 one.there there of.1);
        })

    -- the bits of signals are bits of ports
    used : (Is : SignalBit → Type 0) (bits : List Bit) → AreNumbered Is bits → ((u : SignalBit) → Is u → (port : IoDesc) × IsPortBit m u.bit port)
        → (n : ℕ) (b : Bit) → slice_get bits n ≡ Some b → (port : IoDesc) × IsPortBit m b port
    used Is bits are of n b there =
        let one = image_of (λ (u : SignalBit). u.bit) are.uses n b (subst (λ bs. slice_get bs n ≡ Some b) (sym are.bits_are) there) in
        let port = of one.0 ((are.just.members one.0).0 (item_among are.uses n one.0 one.1)) in
        (port.0, subst (λ x. IsPortBit m x port.0) one.2 port.1)

    pub inputs_right : ArePins m pins → (d : Definition) → Among d (numbered_from (pin_definition (codes "MIO_IN") m) 0 pins.ins) → IsRight m numbers pins d
    inputs_right are =
        pins_right (codes "MIO_IN") pins.ins (refl, (refl, (refl, (refl, (refl, (refl, tt)))))) fit.inputs (used (IsInput m) pins.ins are.inputs (λ u is. (is.port, is.of_port)))
        (λ c is. IsTopConstant.input is)

    pub outputs_right : ArePins m pins → (d : Definition) → Among d (numbered_from (pin_definition (codes "MIO_OUT") m) 0 pins.outs) → IsRight m numbers pins d
    outputs_right are =
        pins_right (codes "MIO_OUT") pins.outs (refl, (refl, (refl, (refl, (refl, (refl, (refl, tt))))))) fit.outputs
        (used (IsOutput m) pins.outs are.outputs (λ u is. (is.port, is.of_port))) (λ c is. IsTopConstant.output is)
