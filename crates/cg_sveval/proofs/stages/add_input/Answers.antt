use Rattle.std.proofs.Common.{rules}
use Rattle.cg_sv.specs.Views.{port_of}
use Rattle.cg_sveval.specs.Lookups.{value_in}
use Rattle.cg_sveval.proofs.Folds.{input_put, input_kept}
use Rattle.cg_sveval.proofs.stages.add_input.Goals as goal

pub returns-in_ok-put : goal.returns-in_ok-put
returns-in_ok-put c =
    input_put c.args.cells.now (port_of c.args.port.now) c.as_str-then-port.result.now c.in_ok-bits.bits.items (value_in c.args.known.now) (value_in c.put.new.self) c.if-port.true
    c.as_str-then-port.ensures (search rules) c.in_ok-put.ensures

pub returns-else-port : goal.returns-else-port
returns-else-port c = input_kept c.args.cells.now (port_of c.args.port.now) (value_in c.args.known.now) c.if-port.false
