use Rattle.cg_svbus.proofs.Countings.{numbered_more}
use Rattle.cg_svbus.proofs.top_nodes.numbers.Goals as goal

pub loop-number-preserved : goal.loop-number-preserved
loop-number-preserved c =
    numbered_more c.loop-number.numbers.items c.push.new.self.items _ c.loop-number.number c.args.count c.loop-number-test.true c.in_ok-push.ensures.items c.loop-number.invariant
