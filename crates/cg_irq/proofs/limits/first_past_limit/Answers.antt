use Rattle.std.proofs.Common.{◌<◌, length, refl, sym, subst}
use Rattle.cg_irq.specs.Listed.{alert_widths, interrupt_widths}
use Rattle.cg_irq.specs.Walked.{PassesWith}
use Rattle.cg_irq.proofs.InstanceBlocks.{read_block}
use Rattle.cg_irq.proofs.Passing.{alert_number, count_next, decides_passes, tells_passes}
use Rattle.cg_irq.proofs.Walks.{walk_end, walk_next, walk_start}
use Rattle.cg_irq.proofs.limits.first_past_limit.Goals as goal

pub loop-number-init : goal.loop-number-init
loop-number-init c = (walk_start (PassesWith c.args.top.now) c.args.top.now.top.insts, refl, refl)

pub loop-number-preserved : goal.loop-number-preserved
unfolding interrupt_widths alert_widths
loop-number-preserved c =
    let less = rw c.as_slice-inst-items.ensures at c.loop-number-test.true in
    let is = rw c.as_slice-inst-items.ensures at c.inst-item.is in
    let within : c.loop-number.number < length c.args.top.now.kinds = subst (λ n. c.loop-number.number < n) (sym c.requires.count) less in
    let read = rw (c.as_slice.ensures, c.as_slice-in-loop-number.ensures) at c.index-as_slice-as_slice.is in
    let block = read_block c.args.top.now c.requires c.loop-number.number _ c.index-as_slice-as_slice.result _ within read in
    let interrupts =
    count_next interrupt_widths c.args.top.now c.loop-number.number _ c.index-as_slice-as_slice.result _ _ _ block.0 block.1 c.loop-number.invariant.1
    (rw c.as_slice-in-loop-number-2.ensures at c.interrupt_count.ensures) c.counted-interrupts.ensures in
    let alerts =
    count_next alert_widths c.args.top.now c.loop-number.number _ c.index-as_slice-as_slice.result _ _ _ block.0 block.1 c.loop-number.invariant.2
    (alert_number c.index-as_slice-as_slice.result.desc.alerts c.alert_count.result (rw c.len.ensures at c.alert_count.ensures)) c.counted-alerts.ensures in
    let over = decides_passes c.args.top.now c.loop-number.number _ _ c.passes.result interrupts alerts c.passes.ensures in
    let here = tells_passes c.args.top.now c.loop-number.number c.inst-item.result c.passes.result _ (rw (c.when-here.ensures, c.too_many_sources.ensures, c.as_str.ensures) refl) over in (
      walk_next (PassesWith c.args.top.now) c.args.top.now.top.insts c.loop-number.number c.inst-item.result _ _ _ less is c.loop-number.invariant.0 here c.earlier_of-first.ensures,
      interrupts,
      alerts,
    )

pub returns : goal.returns
returns c =
    let most = rw c.as_slice-inst-items.ensures at c.loop-number-test.false in
    walk_end (PassesWith c.args.top.now) c.args.top.now.top.insts _ c.loop-number.number most c.loop-number.invariant.0
