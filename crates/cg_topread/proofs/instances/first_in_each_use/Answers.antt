use Rattle.std.proofs.Common.{sym, ◌∙◌}
use Rattle.cg_finding.proofs.Loops.{no_more, one_more}
use Rattle.cg_topread.specs.Listed.{use_faults}
use Rattle.cg_topread.proofs.instances.first_in_each_use.Goals as goal

pub loop-item-preserved : goal.loop-item-preserved
loop-item-preserved c =
    one_more use_faults c.args.items.now c.loop-item.item-index c.item-item.result _ _ _ _
    c.loop-item-test.true c.item-item.is c.in_ok-first_in_use.ensures c.earlier_of-first.ensures
    ∙ c.loop-item.invariant

pub returns : goal.returns
returns c =
    sym (no_more use_faults c.args.items.now c.loop-item.item-index _ c.loop-item-test.false)
    ∙ c.loop-item.invariant
