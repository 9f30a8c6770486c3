use Rattle.cg_irq.proofs.Walks.{walk_end, walk_next, walk_start}
use Rattle.cg_clkrst.specs.Owned.{LacksAt}
use Rattle.cg_clkrst.proofs.FirstLacks.{owner_lacks, read_again}
use Rattle.cg_clkrst.proofs.missing.first_lacking.Goals as goal

pub loop-port-init : goal.loop-port-init
loop-port-init c = walk_start (λ k p. LacksAt c.args.top.now c.args.owned.now p) c.args.ports.now

pub loop-port-preserved : goal.loop-port-preserved
loop-port-preserved c =
    walk_next (λ k p. LacksAt c.args.top.now c.args.owned.now p) c.args.ports.now c.loop-port.port-index _ _ _ _ c.loop-port-test.true
    (read_again c.args.ports.now c.loop-port.port-index _ c.loop-port-test.true) c.loop-port.invariant c.lacking.ensures c.earlier_of-first.ensures

pub returns : goal.returns
returns c =
    owner_lacks c.args.top.now c.args.owned.now c.args.ports.now c.requires.own
    (walk_end (λ k p. LacksAt c.args.top.now c.args.owned.now p) c.args.ports.now _ c.loop-port.port-index c.loop-port-test.false c.loop-port.invariant)
