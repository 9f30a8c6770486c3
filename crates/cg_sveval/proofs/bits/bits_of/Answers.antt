use Rattle.cg_sveval.proofs.BitSteps.{bits_next, bits_done}
use Rattle.cg_sveval.proofs.bits.bits_of.Goals as goal

pub loop-preserved : goal.loop-preserved
loop-preserved c =
    bits_next c.loop.found.items c.push.new.self.items _ c.args.width c.loop.counter c.loop.rest c.loop.invariant c.loop-test.true c.in_ok-push.ensures.items

pub returns : goal.returns
returns c = bits_done c.loop.found.items _ c.args.width c.loop.counter c.loop.rest c.loop.invariant c.loop-test.false
