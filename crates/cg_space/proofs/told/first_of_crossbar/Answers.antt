use Rattle.std.proofs.Common.{◌≡◌, ◌<◌, length, arith}
use Rattle.std.proofs.lemmas.Option.{slice_get-get_or}
use Rattle.cg_finding.proofs.Told.{tells_next, tells_start}
use Rattle.cg_space.proofs.Telling.{few_nodes, tells_crossbar, tells_here}
use Rattle.cg_space.proofs.told.first_of_crossbar.Goals as goal
use Rattle.cg_space.proofs.told.first_of_crossbar.Goals.{After-node_at}

pub loop-node-init : goal.loop-node-init
loop-node-init c = tells_start

pub node_at-requires : goal.node_at-requires
node_at-requires c = (c.node_count-node-end.ensures.nodes c.loop-node.node).0 c.loop-node-test.true

-- the node has a verdict
within : (c : After-node_at) → c.loop-node.node < length c.args.verdicts.now
within c =
    let at = c.node_at.ensures in
    let counted = c.node_count-node-end.ensures.count at.crossbar at.crossbar_is in
    let all = c.requires.all at.crossbar at.crossbar_is in
    omega (arith, c.loop-node-test.true, counted, all)

pub offset_bounds-verdicts-node : goal.offset_bounds-verdicts-node
offset_bounds-verdicts-node c =
    omega (arith, few_nodes c.args.top.now c.args.xbar c.loop-node.node c.requires.sound (c.node_at.result.now, c.node_at.ensures))

pub bounds-verdicts-node : goal.bounds-verdicts-node
bounds-verdicts-node c = within (goal.at.bounds-verdicts-node c).After-node_at

pub loop-node-preserved : goal.loop-node-preserved
loop-node-preserved c =
    tells_next c.loop-node.node c.loop-node.invariant
    (tells_here c.args.top.now c.args.xbar c.loop-node.node c.args.verdicts.now c.node_at.result.now _ _ c.node_at.ensures
    (slice_get-get_or c.args.verdicts.now c.loop-node.node _ (within (goal.at.loop-node-preserved c).After-node_at)) c.first_of_node-of_node.ensures)
    c.earlier_of-first.ensures

pub returns : goal.returns
returns c =
    let all : c.loop-node.node ≡ c.node_count-node-end.result = omega (arith, c.loop-node.auto.node-end, c.loop-node-test.false) in
    tells_crossbar c.args.top.now c.args.xbar c.node_count-node-end.result c.args.verdicts.now _ c.node_count-node-end.ensures.nodes (rw all at c.loop-node.invariant)
