use Rattle.cg_sv.specs.Views.{entry_of}
use Rattle.cg_sveval.specs.Lookups.{value_in}
use Rattle.cg_sveval.specs.Tables.{with_entry}
use Rattle.cg_sveval.proofs.Folds.{fold_next, entry_keeps}
use Rattle.cg_sveval.proofs.stages.settle.Goals as goal

pub loop-entry-preserved : goal.loop-entry-preserved
loop-entry-preserved c =
    fold_next entry_of with_entry entry_keeps c.args.entries.now c.loop-entry.entry-index c.entry-item.result _ (value_in c.loop-entry.known) (value_in c.add_entry.new.known) (value_in c.args.known.now) c.loop-entry-test.true c.entry-item.is
    c.in_ok-add_entry.ensures c.loop-entry.invariant
