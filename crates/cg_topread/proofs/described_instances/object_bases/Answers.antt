use Rattle.cg_topread.proofs.KeyOrder.{shown}
use Rattle.cg_topread.proofs.Pairs.{no_base_yet}
use Rattle.cg_topread.proofs.described_instances.object_bases.Goals as goal

pub loop-space-init : goal.loop-space-init
loop-space-init c = no_base_yet c.args.bases.now (shown c.in_ok-left.left.entries) c.new-listed.result c.new-listed.ensures c.in_ok-left.ensures
