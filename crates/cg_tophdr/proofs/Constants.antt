-- The constants of a top's header are just those of the top.
use Rattle.std.proofs.Common.{◌≡◌, ℕ, suc, ◌⊎◌, List, ◌++◌, inl, inr, sym, ap, subst, codes, arith}
use Rattle.std.specs.List.{flat_map}
use Rattle.cg_desc.specs.Merged.{IsMerged}
use Rattle.cg_desc.specs.declared.top.MergedTop.{MergedTop}
use Rattle.cg_hdrspec.proofs.Definitions.{IsGood}
use Rattle.cg_hdrspec.specs.BlockHeader.{Definition}
use Rattle.cg_hdrspec.specs.Header.{Constant, constant}
use Rattle.cg_hdrspec.specs.Whole.{whole_constants}
use Rattle.cg_irq.specs.Numbers.{AreNumbers}
use Rattle.cg_irq.specs.declared.bits.Bit.{Bit}
use Rattle.cg_irq.specs.declared.bits.IrqMap.{IrqMap}
use Rattle.cg_pinmux.proofs.Lists.{among_all}
use Rattle.cg_pinmux.specs.Pins.{ArePins}
use Rattle.cg_pinmux.specs.declared.map.PinMap.{PinMap}
use Rattle.cg_svspec.specs.Names.{Among}
use Rattle.cg_svspec.specs.Printable.{AllOf}
use Rattle.cg_svspec.proofs.NamesLemmas.{among_back, among_front, among_parts}
use Rattle.cg_topspec.proofs.ListLemmas.{from_map, in_map}
use Rattle.cg_topspec.specs.Top.{instance_numbers}
use Rattle.cg_tophdr.proofs.Bits.{alert_defined, alerts_right, inputs_right, interrupt_defined, interrupts_right, outputs_right, pin_defined}
use Rattle.cg_tophdr.proofs.Interfaces.{IsRight, base_there, interfaces_right, size_there}
use Rattle.cg_tophdr.proofs.Numbered.{numbered_is}
use Rattle.cg_tophdr.specs.Laws.{NumbersFit}
use Rattle.cg_tophdr.specs.Meaning.{IsPinConstant, IsTopConstant}
use Rattle.cg_tophdr.specs.TopHeader.{alert_definition, instance_definitions, interrupt_definition, numbered_from, pin_definition, top_definitions}

module _ (m : MergedTop) (numbers : IrqMap) (pins : PinMap) where
  -- the five lists
  abbrev of_interfaces : List Definition
  of_interfaces = flat_map (instance_definitions m) (instance_numbers m)

  abbrev of_interrupts : List Definition
  of_interrupts = numbered_from (interrupt_definition m) 1 numbers.intr

  abbrev of_alerts : List Definition
  of_alerts = numbered_from (alert_definition m) 0 numbers.alert

  abbrev of_inputs : List Definition
  of_inputs = numbered_from (pin_definition (codes "MIO_IN") m) 0 pins.ins

  abbrev of_outputs : List Definition
  of_outputs = numbered_from (pin_definition (codes "MIO_OUT") m) 0 pins.outs

  -- a definition is in one of them
  data InPart (d : Definition) : Type 0 where
    interface : Among d of_interfaces → InPart d
    interrupt : Among d of_interrupts → InPart d
    alert : Among d of_alerts → InPart d
    input : Among d of_inputs → InPart d
    output : Among d of_outputs → InPart d

  part_of : (d : Definition) → Among d (top_definitions m numbers pins) → InPart d
  unfolding top_definitions
  part_of d among = by (among_parts d of_interfaces (of_interrupts ++ (of_alerts ++ (of_inputs ++ of_outputs))) among) where
    at_pins : Among d of_inputs ⊎ Among d of_outputs → InPart d
    at_pins (inl a) = input a
    at_pins (inr a) = output a

    from_alerts : Among d of_alerts ⊎ Among d (of_inputs ++ of_outputs) → InPart d
    from_alerts (inl a) = alert a
    from_alerts (inr a) = at_pins (among_parts d of_inputs of_outputs a)

    from_interrupts : Among d of_interrupts ⊎ Among d (of_alerts ++ (of_inputs ++ of_outputs)) → InPart d
    from_interrupts (inl a) = interrupt a
    from_interrupts (inr a) = from_alerts (among_parts d of_alerts (of_inputs ++ of_outputs) a)

    by : Among d of_interfaces ⊎ Among d (of_interrupts ++ (of_alerts ++ (of_inputs ++ of_outputs))) → InPart d
    by (inl a) = interface a
    by (inr a) = from_interrupts (among_parts d of_interrupts (of_alerts ++ (of_inputs ++ of_outputs)) a)

  of_part : (d : Definition) → InPart d → Among d (top_definitions m numbers pins)
  unfolding top_definitions
  of_part d (interface a) = among_front d of_interfaces (of_interrupts ++ (of_alerts ++ (of_inputs ++ of_outputs))) a
  of_part d (interrupt a) =
      among_back d of_interfaces (of_interrupts ++ (of_alerts ++ (of_inputs ++ of_outputs))) (among_front d of_interrupts (of_alerts ++ (of_inputs ++ of_outputs)) a)
  of_part d (alert a) =
      among_back d of_interfaces (of_interrupts ++ (of_alerts ++ (of_inputs ++ of_outputs)))
      (among_back d of_interrupts (of_alerts ++ (of_inputs ++ of_outputs)) (among_front d of_alerts (of_inputs ++ of_outputs) a))
  of_part d (input a) =
      among_back d of_interfaces (of_interrupts ++ (of_alerts ++ (of_inputs ++ of_outputs)))
      (among_back d of_interrupts (of_alerts ++ (of_inputs ++ of_outputs)) (among_back d of_alerts (of_inputs ++ of_outputs) (among_front d of_inputs of_outputs a)))
  of_part d (output a) =
      among_back d of_interfaces (of_interrupts ++ (of_alerts ++ (of_inputs ++ of_outputs)))
      (among_back d of_interrupts (of_alerts ++ (of_inputs ++ of_outputs)) (among_back d of_alerts (of_inputs ++ of_outputs) (among_back d of_inputs of_outputs a)))

  module _ (merged : IsMerged m) where
    -- each definition is right
    definition_right : AreNumbers m numbers → ArePins m pins → NumbersFit numbers pins → (d : Definition) → InPart d → IsRight m numbers pins d
    definition_right are at fit d (interface a) = interfaces_right m merged numbers pins d a
    definition_right are at fit d (interrupt a) = interrupts_right m merged numbers pins fit are d a
    definition_right are at fit d (alert a) = alerts_right m merged numbers pins fit are d a
    definition_right are at fit d (input a) = inputs_right m merged numbers pins fit at d a
    definition_right are at fit d (output a) = outputs_right m merged numbers pins fit at d a

    pub all_good : AreNumbers m numbers → ArePins m pins → NumbersFit numbers pins → AllOf IsGood (top_definitions m numbers pins)
    all_good are at fit = among_all IsGood (top_definitions m numbers pins) (λ d among. (definition_right are at fit d (part_of d among)).good)

    pub each_means : AreNumbers m numbers → ArePins m pins → NumbersFit numbers pins → (c : Constant) → Among c (whole_constants (top_definitions m numbers pins)) → IsTopConstant m numbers pins c
    each_means are at fit c among =
        let from = from_map (λ (d : Definition). constant d.name d.value) (top_definitions m numbers pins) c among in
        subst (IsTopConstant m numbers pins) (sym from.2) (definition_right are at fit from.0 (part_of from.0 from.1)).means

    -- the constant of a definition is there
    constant_there : (d : Definition) → InPart d → Among (constant d.name d.value) (whole_constants (top_definitions m numbers pins))
    constant_there d part = in_map (λ (e : Definition). constant e.name e.value) (top_definitions m numbers pins) d (of_part d part)

    -- the number of a bit of a port is among those of its direction
    pin_there : (kind : List ℕ) (bits : List Bit) (c : Constant) → IsPinConstant m kind bits c
        → (d : Definition) × Among d (numbered_from (pin_definition kind m) 0 bits) × (constant d.name d.value ≡ c)
    pin_there kind bits _ (IsPinConstant.pin n b inst port there is of) =
        (pin_definition kind m n b, numbered_is (pin_definition kind m) 0 bits n b n there (omega arith), ap (λ (d : Definition). constant d.name d.value) (pin_defined m kind n b inst port is of))

    pub each_there : (c : Constant) → IsTopConstant m numbers pins c → Among c (whole_constants (top_definitions m numbers pins))
    each_there _ (IsTopConstant.base i f b inst face is at base_is) = constant_there _ (interface (base_there m merged numbers pins i f b inst face is at base_is))
    each_there _ (IsTopConstant.size i f inst face is at) = constant_there _ (interface (size_there m merged numbers pins i f inst face is at))
    each_there _ (IsTopConstant.interrupt n b inst interrupt_desc there is at) =
        subst (λ (d : Definition). Among (constant d.name d.value) (whole_constants (top_definitions m numbers pins))) (interrupt_defined m (suc n) b inst interrupt_desc is at)
        (constant_there (interrupt_definition m (suc n) b) (interrupt (numbered_is (interrupt_definition m) 1 numbers.intr n b (suc n) there (omega arith))))
    each_there _ (IsTopConstant.alert n b inst alert_desc there is at) =
        subst (λ (d : Definition). Among (constant d.name d.value) (whole_constants (top_definitions m numbers pins))) (alert_defined m n b inst alert_desc is at)
        (constant_there (alert_definition m n b) (alert (numbered_is (alert_definition m) 0 numbers.alert n b n there (omega arith))))
    each_there c (IsTopConstant.input is) =
        let d = pin_there (codes "MIO_IN") pins.ins c is in
        subst (λ (k : Constant). Among k (whole_constants (top_definitions m numbers pins))) d.2 (constant_there d.0 (input d.1))
    each_there c (IsTopConstant.output is) =
        let d = pin_there (codes "MIO_OUT") pins.outs c is in
        subst (λ (k : Constant). Among k (whole_constants (top_definitions m numbers pins))) d.2 (constant_there d.0 (output d.1))
