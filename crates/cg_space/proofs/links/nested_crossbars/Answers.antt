use Rattle.std.proofs.Common.{◌≡◌, arith}
use Rattle.cg_space.proofs.Linking.{nests_all, nests_more}
use Rattle.cg_space.proofs.links.nested_crossbars.Goals as goal

pub nested_in-requires-clause-there : goal.nested_in-requires-clause-there
nested_in-requires-clause-there c = (c.node_count-node-end.ensures.nodes c.loop-node.node).0 c.loop-node-test.true

pub loop-node-preserved : goal.loop-node-preserved
loop-node-preserved c =
    nests_more c.args.top.now c.args.xbar c.loop-node.node c.loop-node.inner _ c.nested_in.result c.nested_in.ensures c.in_ok-push_found.ensures c.loop-node.invariant

pub returns : goal.returns
returns c =
    let all : c.loop-node.node ≡ c.node_count-node-end.result = omega (arith, c.loop-node.auto.node-end, c.loop-node-test.false) in
    nests_all c.args.top.now c.args.xbar c.node_count-node-end.result c.loop-node.inner c.node_count-node-end.ensures.nodes (rw all at c.loop-node.invariant)
