use Rattle.cg_irq.proofs.Listings.{all_bits, next_bit}
use Rattle.cg_irq.proofs.listing.add_item.Goals as goal

pub loop-bit-preserved : goal.loop-bit-preserved
loop-bit-preserved c = next_bit c.args.inst c.args.item c.args.width c.loop-bit.bit _ _ _ c.loop-bit-test.true c.in_ok-push.ensures.ok c.loop-bit.invariant

pub returns : goal.returns
returns c = all_bits c.args.inst c.args.item c.args.width c.loop-bit.bit _ _ c.loop-bit-test.false c.loop-bit.invariant
