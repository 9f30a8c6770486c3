use Rattle.cg_topread.proofs.KeyOrder.{shown}
use Rattle.cg_topread.proofs.Pairs.{no_pair_yet}
use Rattle.cg_topread.proofs.described_instances.pairs_of.Goals as goal

pub loop-port-init : goal.loop-port-init
loop-port-init c = no_pair_yet c.args.key.now c.args.sources.now (shown c.in_ok-left.left.entries) c.new-pairs.result c.new-pairs.ensures c.in_ok-left.ensures
