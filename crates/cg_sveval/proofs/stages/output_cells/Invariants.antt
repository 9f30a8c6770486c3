use Rattle.std.proofs.Common.{◌≡◌, ◌++◌, drop, map}
use Rattle.cg_sv.specs.Views.{port_of}
use Rattle.cg_sveval.specs.Lookups.{value_in}
use Rattle.cg_sveval.specs.Tables.{output_cells}
use Rattle.cg_sveval.proofs.stages.output_cells.Given as goal

-- the cells so far, and then those of the ports that are left, are all
abbrev pub invariant-loop-port : goal.invariant-loop-port
invariant-loop-port l = l.cells ++ output_cells (value_in l.known) (map port_of (drop l.port-index l.ports)) ≡ output_cells (value_in l.known) (map port_of l.ports)
