use Rattle.std.proofs.Common.{sym, ◌∙◌}
use Rattle.cg_finding.proofs.Loops.{no_more_viewed, one_more_viewed}
use Rattle.cg_keys.proofs.firsts.first_in_all_of.Goals as goal

pub loop-member-preserved : goal.loop-member-preserved
loop-member-preserved g c =
    one_more_viewed (g.R.Rule.faults c.args.rule.now) (λ m. m.now) c.args.members.now c.loop-member.member-index c.member-item.result _ _ _ _
    c.loop-member-test.true c.member-item.is c.first.ensures c.earlier_of-first.ensures
    ∙ c.loop-member.invariant

pub returns : goal.returns
returns g c =
    sym (no_more_viewed (g.R.Rule.faults c.args.rule.now) (λ m. m.now) c.args.members.now c.loop-member.member-index _ c.loop-member-test.false)
    ∙ c.loop-member.invariant
