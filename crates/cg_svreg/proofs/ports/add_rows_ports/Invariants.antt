use Rattle.std.proofs.Common.{◌≡◌, ◌++◌, drop, map}
use Rattle.cg_sv.specs.Views.{port_of}
use Rattle.cg_regspec.specs.RegisterModule.{rows_ports}
use Rattle.cg_svreg.proofs.ports.add_rows_ports.Given as goal

-- the ports so far, and then those of the rows that are left, are all ports
abbrev pub invariant-loop-row : goal.invariant-loop-row
invariant-loop-row l =
    map port_of l.ports ++ rows_ports (drop l.row-index l.rows) ≡ map port_of l.fn.ports ++ rows_ports l.rows
