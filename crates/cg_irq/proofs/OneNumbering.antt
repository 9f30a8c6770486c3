-- A top has one numbering, and a valid merged top has its blocks.
use Rattle.std.proofs.Common.{◌≡◌, ◌<◌, List, [], ◌∷◌, length, refl, sym, subst, arith}
use Rattle.std.proofs.lemmas.Option.{slice_get_within}
use Rattle.cg_svspec.specs.Printable.{AllOf}
use Rattle.cg_desc.specs.Merged.{IsMerged, IsValidLaidBlock, IsValidMerged}
use Rattle.cg_desc.specs.Valid.{IsValidBlock}
use Rattle.cg_desc.specs.declared.block.LaidBlock.{LaidBlock}
use Rattle.cg_desc.specs.declared.top.MergedTop.{MergedTop}
use Rattle.cg_desc.proofs.Numbered.{item_at, item_number}
use Rattle.cg_irq.specs.Instances.{HasBlocks}
use Rattle.cg_irq.specs.Listed.{alert_widths, bits_of, interrupt_widths, widths_of}
use Rattle.cg_irq.specs.Numbers.{AreNumbers, IsAlertBit, IsInterruptBit}
use Rattle.cg_irq.specs.declared.bits.IrqMap.{IrqMap}
use Rattle.cg_irq.proofs.Listed.{listed_bits, one_list}
use Rattle.cg_irq.proofs.Order.{among_all}
use Rattle.cg_irq.proofs.Widths.{alert_bits, interrupt_bits}

-- the listed bits are the top's
pub are_listed : (m : MergedTop) → AreNumbers m (record { intr = bits_of 0 (widths_of interrupt_widths m); alert = bits_of 0 (widths_of alert_widths m) })
are_listed m = record {
  interrupts = listed_bits (IsInterruptBit m) (widths_of interrupt_widths m) (interrupt_bits m);
  alerts = listed_bits (IsAlertBit m) (widths_of alert_widths m) (alert_bits m);
}

pub one_numbering : (m : MergedTop) (a b : IrqMap) → AreNumbers m a → AreNumbers m b → a ≡ b
one_numbering m a b first second =
    let intr = one_list (IsInterruptBit m) a.intr b.intr first.interrupts second.interrupts in
    let alert = one_list (IsAlertBit m) a.alert b.alert first.alerts second.alerts in
    λ i. record { intr = intr i; alert = alert i }

-- ---- blocks of instances

all_blocks : (bs : List LaidBlock) → AllOf IsValidLaidBlock bs → AllOf (λ b. IsValidBlock b.desc) bs
all_blocks [] all = tt
all_blocks (b ∷ bs) all = (all.0.block, all_blocks bs all.1)

of_top : (m : MergedTop) → IsMerged m → HasBlocks m
of_top m merged = record {
  count = merged.kinds.count;
  few = merged.top.few_instances;
  within = among_all (λ k. k < length m.blocks) m.kinds (λ k among.
      let at = item_number m.kinds k among in
      let inst = item_at m.top.insts at.0 (subst (λ n. at.0 < n) merged.kinds.count (slice_get_within m.kinds at.0 k at.1)) in
      let block = merged.kinds.each at.0 k inst.0 inst.1 at.1 in
      slice_get_within m.blocks k block.0 block.1.is);
  blocks = all_blocks m.blocks merged.blocks;
}

pub has_blocks : (m : MergedTop) → IsValidMerged m → HasBlocks m
has_blocks m (IsValidMerged.of_top merged) = of_top m merged
has_blocks m (IsValidMerged.of_crossbar x valid is) = subst HasBlocks (sym is) (record { count = refl; few = omega arith; within = tt; blocks = tt })
