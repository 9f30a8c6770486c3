use Rattle.std.proofs.Common.{◌∙◌, arith}
use Rattle.cg_svxbar.proofs.Bundles.{responses_made}
use Rattle.cg_svxbar.proofs.instances.responses.Goals as goal

pub returns : goal.returns
returns c =
    responses_made c.cat.result c.loop-link.nets.items c.from_vec.result c.args.links.now c.loop-link.link-index (omega arith) (c.from_vec.ensures ∙ c.reverse.ensures.items) c.cat.ensures
    c.loop-link.invariant
