use Rattle.cg_svxbar.proofs.Made.{join_made}
use Rattle.cg_svxbar.proofs.instances.add_join.Goals as goal

pub returns : goal.returns
returns c = join_made _ _ c.args.name.now c.args.clock.now c.args.from.now c.args.to.now _ _ c.in_ok-params.ensures c.in_ok-conns.ensures c.in_ok-instance.ensures.ok
