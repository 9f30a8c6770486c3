use Rattle.cg_svxbar.proofs.Made.{fifo_made}
use Rattle.cg_svxbar.proofs.instances.add_fifo.Goals as goal

pub returns : goal.returns
returns c = fifo_made _ _ c.args.name.now c.args.near.now c.args.far.now c.args.from.now c.args.to.now _ _ c.new.ensures c.in_ok-conns.ensures c.in_ok-instance.ensures.ok
