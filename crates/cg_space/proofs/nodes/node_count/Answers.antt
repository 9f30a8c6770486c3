use Rattle.cg_space.proofs.Linking.{count_there, nodes_there}
use Rattle.cg_space.proofs.nodes.node_count.Goals as goal

pub returns-clause-count : goal.returns-clause-count
returns-clause-count c x is =
    rw (c.len.ensures, c.as_slice.ensures) (count_there c.args.top.now c.args.xbar _ x c.requires is)

pub returns-clause-nodes : goal.returns-clause-nodes
returns-clause-nodes c n = rw (c.len.ensures, c.as_slice.ensures) (nodes_there c.args.top.now c.args.xbar n _ c.requires)
