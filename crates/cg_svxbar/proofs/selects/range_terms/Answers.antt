use Rattle.std.proofs.Common.{arith}
use Rattle.cg_svxbar.proofs.Bundles.{terms_made}
use Rattle.cg_svxbar.proofs.selects.range_terms.Goals as goal

pub returns : goal.returns
returns c = terms_made c.loop-range.terms c.args.request.now c.args.ranges.now c.loop-range.range-index (omega arith) c.loop-range.invariant
