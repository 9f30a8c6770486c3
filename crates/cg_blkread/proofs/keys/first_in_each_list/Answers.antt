use Rattle.std.proofs.Common.{sym, ◌∙◌}
use Rattle.cg_finding.proofs.Loops.{no_more_viewed, one_more_viewed}
use Rattle.cg_blkread.specs.Keys.{entry_list_faults}
use Rattle.cg_blkread.specs.Views.{list_of}
use Rattle.cg_blkread.proofs.keys.first_in_each_list.Goals as goal

pub loop-list-preserved : goal.loop-list-preserved
loop-list-preserved c =
    one_more_viewed entry_list_faults list_of c.args.lists.now c.loop-list.list-index c.list-item.result _ _ _ _
    c.loop-list-test.true c.list-item.is c.first_in_entry_list.ensures c.earlier_of-first.ensures
    ∙ c.loop-list.invariant

pub returns : goal.returns
returns c =
    sym (no_more_viewed entry_list_faults list_of c.args.lists.now c.loop-list.list-index _ c.loop-list-test.false)
    ∙ c.loop-list.invariant
