use Rattle.cg_space.proofs.Tabling.{entries_more}
use Rattle.cg_space.proofs.table.table_of.Goals as goal

pub entry_of-requires-clause-there : goal.entry_of-requires-clause-there
entry_of-requires-clause-there c = (c.node_count-node-end.ensures.nodes c.loop-node.node).0 c.loop-node-test.true

pub loop-node-preserved : goal.loop-node-preserved
loop-node-preserved c =
    entries_more c.args.top.now c.args.xbar c.loop-node.node c.loop-node.table _ c.in_ok-entry_of.field-0 c.in_ok-entry_of.ensures c.in_ok-push.ensures.ok c.loop-node.invariant
