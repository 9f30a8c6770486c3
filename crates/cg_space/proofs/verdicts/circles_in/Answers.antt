use Rattle.std.proofs.Common.{◌≡◌, ◌∙◌, arith}
use Rattle.cg_space.specs.Inner.Verdicts.{IsCircleVerdict}
use Rattle.cg_space.proofs.Numbering.{none_below, one_below, verdicts_of}
use Rattle.cg_space.proofs.verdicts.circles_in.Goals as goal

pub loop-node-init : goal.loop-node-init
loop-node-init c = rw c.new-verdicts.ensures (none_below (IsCircleVerdict c.args.top.now c.args.xbar))

pub circle_verdict-requires-clause-there : goal.circle_verdict-requires-clause-there
circle_verdict-requires-clause-there c = (c.node_count-node-end.ensures.nodes c.loop-node.node).0 c.loop-node-test.true

pub loop-node-preserved : goal.loop-node-preserved
loop-node-preserved c =
    one_below (IsCircleVerdict c.args.top.now c.args.xbar) c.loop-node.node c.loop-node.verdicts _ c.circle_verdict.result c.circle_verdict.ensures c.in_ok-push.ensures.ok c.loop-node.invariant

pub returns : goal.returns
returns c =
    let all : c.loop-node.node ≡ c.node_count-node-end.result = omega (arith, c.loop-node.auto.node-end, c.loop-node-test.false) in
    verdicts_of c.args.top.now (IsCircleVerdict c.args.top.now) c.args.xbar c.loop-node.node c.loop-node.verdicts
    (λ xbar is. all ∙ c.node_count-node-end.ensures.count xbar is) c.loop-node.invariant
