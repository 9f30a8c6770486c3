use Rattle.std.proofs.Common.{sym, ◌∙◌}
use Rattle.cg_finding.proofs.Loops.{no_more_viewed, one_more_viewed}
use Rattle.cg_xbread.specs.Listed.{connection_faults}
use Rattle.cg_xbread.proofs.connections.first_in_each_connection.Goals as goal

pub loop-member-preserved : goal.loop-member-preserved
loop-member-preserved c =
    one_more_viewed connection_faults (λ m. m.now) c.args.members.now c.loop-member.member-index c.member-item.result _ _ _ _
    c.loop-member-test.true c.member-item.is c.first_in_connection.ensures c.earlier_of-first.ensures
    ∙ c.loop-member.invariant

pub returns : goal.returns
returns c =
    sym (no_more_viewed connection_faults (λ m. m.now) c.args.members.now c.loop-member.member-index _ c.loop-member-test.false)
    ∙ c.loop-member.invariant
