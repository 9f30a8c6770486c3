use Rattle.std.proofs.Common.{sym, ◌∙◌}
use Rattle.cg_finding.proofs.Loops.{no_more, one_more}
use Rattle.cg_xbread.specs.Listed.{ends_faults}
use Rattle.cg_xbread.proofs.ends.first_in_all_ends.Goals as goal

pub loop-connection-preserved : goal.loop-connection-preserved
loop-connection-preserved c =
    one_more (ends_faults c.args.nodes.now) c.args.connections.now c.loop-connection.connection-index c.connection-item.result _ _ _ _
    c.loop-connection-test.true c.connection-item.is c.in_ok-first_in_ends.ensures c.earlier_of-first.ensures
    ∙ c.loop-connection.invariant

pub returns : goal.returns
returns c =
    sym (no_more (ends_faults c.args.nodes.now) c.args.connections.now c.loop-connection.connection-index _ c.loop-connection-test.false)
    ∙ c.loop-connection.invariant
