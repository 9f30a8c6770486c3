use Rattle.std.proofs.Common.{refl}
use Rattle.cg_desc.specs.declared.block.AlertDesc.{AlertDesc}
use Rattle.cg_irq.proofs.Listings.{all_items, next_item}
use Rattle.cg_irq.proofs.listing.add_alerts.Goals as goal

pub loop-item-preserved : goal.loop-item-preserved
loop-item-preserved c =
    next_item (λ (a : AlertDesc). 1) c.args.alerts.now c.args.inst c.loop-item.item c.index-alerts-item.result _ _ _ _ c.loop-item-test.true c.index-alerts-item.is refl
    c.in_ok-add_item.ensures c.loop-item.invariant

pub returns : goal.returns
returns c = all_items (λ (a : AlertDesc). 1) c.args.alerts.now c.args.inst c.loop-item.item _ _ c.loop-item-test.false c.loop-item.invariant
