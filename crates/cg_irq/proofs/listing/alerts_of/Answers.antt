use Rattle.cg_irq.specs.Listed.{alert_widths}
use Rattle.cg_irq.proofs.InstanceBlocks.{read_block}
use Rattle.cg_irq.proofs.Listings.{all_instances, few_alerts, next_instance}
use Rattle.cg_irq.proofs.listing.alerts_of.Goals as goal

pub add_alerts-requires : goal.add_alerts-requires
add_alerts-requires c =
    let less = rw c.as_slice-kind-items.ensures at c.loop-number-test.true in
    let is = rw (c.as_slice.ensures, c.as_slice-kind-items.ensures) at c.index-as_slice-kind.is in
    let block = read_block c.args.top.now c.requires.has_blocks c.loop-number.number _ c.index-as_slice-kind.result _ less is in
    rw c.as_slice-in-loop-number.ensures
    (few_alerts c.args.top.now c.loop-number.number _ c.index-as_slice-kind.result _ _ block.0 block.1 c.loop-number.invariant c.requires.few)

pub loop-number-preserved : goal.loop-number-preserved
unfolding alert_widths
loop-number-preserved c =
    let less = rw c.as_slice-kind-items.ensures at c.loop-number-test.true in
    let is = rw (c.as_slice.ensures, c.as_slice-kind-items.ensures) at c.index-as_slice-kind.is in
    let block = read_block c.args.top.now c.requires.has_blocks c.loop-number.number _ c.index-as_slice-kind.result _ less is in
    let added = rw c.as_slice-in-loop-number.ensures at c.in_ok-add_alerts.ensures in
    next_instance alert_widths c.args.top.now c.loop-number.number _ c.index-as_slice-kind.result _ _ _ block.0 block.1 added c.loop-number.invariant

pub returns : goal.returns
returns c =
    let most = rw c.as_slice-kind-items.ensures at c.loop-number-test.false in
    all_instances alert_widths c.args.top.now c.loop-number.number _ _ most c.loop-number.invariant
