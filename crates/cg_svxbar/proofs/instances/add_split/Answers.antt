use Rattle.cg_svxbar.proofs.Made.{split_made}
use Rattle.cg_svxbar.proofs.instances.add_split.Goals as goal

pub returns : goal.returns
returns c =
    split_made _ _ c.args.name.now c.args.clock.now c.args.select.now c.args.from.now c.args.to.now _ _ c.in_ok-params.ensures c.in_ok-conns.ensures c.in_ok-instance.ensures.ok
