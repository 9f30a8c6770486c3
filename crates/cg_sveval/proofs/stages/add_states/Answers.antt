use Rattle.cg_sv.specs.Views.{entry_of}
use Rattle.cg_sveval.specs.Lookups.{value_in}
use Rattle.cg_sveval.specs.Tables.{with_state_of}
use Rattle.cg_sveval.proofs.Folds.{fold_done, fold_next, state_keeps}
use Rattle.cg_sveval.proofs.stages.add_states.Goals as goal

pub loop-entry-preserved : goal.loop-entry-preserved
loop-entry-preserved c =
    fold_next entry_of (with_state_of c.args.cells.now) (state_keeps c.args.cells.now) c.args.entries.now c.loop-entry.entry-index c.entry-item.result _ (value_in c.loop-entry.known) (value_in c.add_state_of.new.known) (value_in c.args.known.now) c.loop-entry-test.true c.entry-item.is
    c.in_ok-add_state_of.ensures c.loop-entry.invariant

pub returns : goal.returns
returns c =
    fold_done entry_of (with_state_of c.args.cells.now) c.args.entries.now c.loop-entry.entry-index (value_in c.loop-entry.known) (value_in c.args.known.now) c.loop-entry-test.false
    c.loop-entry.invariant
