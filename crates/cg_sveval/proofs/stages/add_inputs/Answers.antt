use Rattle.cg_sv.specs.Views.{port_of}
use Rattle.cg_sveval.specs.Lookups.{value_in}
use Rattle.cg_sveval.specs.Tables.{with_input}
use Rattle.cg_sveval.proofs.Folds.{fold_next, input_keeps}
use Rattle.cg_sveval.proofs.stages.add_inputs.Goals as goal

pub loop-port-preserved : goal.loop-port-preserved
loop-port-preserved c =
    fold_next port_of (with_input c.args.cells.now) (input_keeps c.args.cells.now) c.args.ports.now c.loop-port.port-index c.port-item.result _ (value_in c.loop-port.known) (value_in c.add_input.new.known) (value_in c.args.known.now) c.loop-port-test.true c.port-item.is
    c.in_ok-add_input.ensures c.loop-port.invariant
