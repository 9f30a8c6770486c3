use Rattle.std.proofs.Common.{sym, ◌∙◌}
use Rattle.cg_finding.proofs.Loops.{no_more, one_more}
use Rattle.cg_blkread.specs.Values.{entry_values}
use Rattle.cg_blkread.proofs.values.first_in_values.Goals as goal

pub loop-entry-preserved : goal.loop-entry-preserved
loop-entry-preserved c =
    one_more entry_values c.args.entries.now c.loop-entry.entry-index c.entry-item.result _ _ _ _
    c.loop-entry-test.true c.entry-item.is c.in_ok-first_in_entry.ensures c.earlier_of-first.ensures
    ∙ c.loop-entry.invariant

pub returns : goal.returns
returns c = sym (no_more entry_values c.args.entries.now c.loop-entry.entry-index _ c.loop-entry-test.false) ∙ c.loop-entry.invariant
