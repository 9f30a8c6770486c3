use Rattle.cg_desc.specs.Merged.{design_of}
use Rattle.cg_merge.specs.Violations.{BreaksNode}
use Rattle.cg_merge.proofs.NodeRules.{tells_crossbar}
use Rattle.cg_merge.proofs.Walks.{walk_end, walk_next, walk_start}
use Rattle.cg_merge.proofs.nodes.first_in_crossbar.Goals as goal

pub loop-number-init : goal.loop-number-init
loop-number-init c = walk_start (BreaksNode (design_of c.args.top.now) c.args.xbar) c.args.outer.now.nodes

pub loop-number-preserved : goal.loop-number-preserved
loop-number-preserved c =
    let less = rw c.as_slice-node-items.ensures at c.loop-number-test.true in
    let is = rw c.as_slice-node-items.ensures at c.node-item.is in
    walk_next (BreaksNode (design_of c.args.top.now) c.args.xbar) c.args.outer.now.nodes c.loop-number.number c.node-item.result _ _ _ less is c.loop-number.invariant
    c.first_in_node.ensures c.earlier_of-first.ensures

pub returns : goal.returns
returns c =
    let most = rw c.as_slice-node-items.ensures at c.loop-number-test.false in
    tells_crossbar (design_of c.args.top.now) c.args.xbar c.args.outer.now
    (walk_end (BreaksNode (design_of c.args.top.now) c.args.xbar) c.args.outer.now.nodes _ c.loop-number.number most c.loop-number.invariant)
