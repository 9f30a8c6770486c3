use Rattle.std.proofs.Common.{sym, ◌∙◌}
use Rattle.cg_finding.proofs.Firsts.{None-earlier}
use Rattle.cg_finding.proofs.Loops.{no_more, one_more}
use Rattle.cg_xbread.specs.Listed.{heard, lonely_device}
use Rattle.cg_xbread.proofs.Heard.{device_by_set}
use Rattle.cg_xbread.proofs.nodes.first_lonely_device.Goals as goal

pub loop-node-init : goal.loop-node-init
loop-node-init c = None-earlier _

pub loop-node-preserved : goal.loop-node-preserved
loop-node-preserved c =
    one_more (lonely_device (heard c.args.nodes.now c.args.connections.now)) c.args.nodes.now c.loop-node.node-index c.node-item.result _ _ _ _
    c.loop-node-test.true c.node-item.is
    (device_by_set (heard c.args.nodes.now c.args.connections.now) c.node-item.result c.in_ok-heard.heard.keys _ c.in_ok-heard.ensures c.lonely_device.ensures)
    c.earlier_of-first.ensures
    ∙ c.loop-node.invariant

pub returns : goal.returns
returns c =
    sym (no_more (lonely_device (heard c.args.nodes.now c.args.connections.now)) c.args.nodes.now c.loop-node.node-index _ c.loop-node-test.false)
    ∙ c.loop-node.invariant
