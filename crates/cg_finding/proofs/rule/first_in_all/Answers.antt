use Rattle.std.proofs.Common.{sym, ◌∙◌}
use Rattle.cg_finding.proofs.Loops.{no_more, one_more}
use Rattle.cg_finding.proofs.rule.first_in_all.Goals as goal

pub loop-item-preserved : goal.loop-item-preserved
loop-item-preserved g c =
    one_more (g.R.Rule.faults c.args.rule.now) c.args.items.now c.loop-item.item-index c.item-item.result _ _ _ _
    c.loop-item-test.true c.item-item.is c.first.ensures c.earlier_of-first.ensures
    ∙ c.loop-item.invariant

pub returns : goal.returns
returns g c =
    sym (no_more (g.R.Rule.faults c.args.rule.now) c.args.items.now c.loop-item.item-index _ c.loop-item-test.false)
    ∙ c.loop-item.invariant
