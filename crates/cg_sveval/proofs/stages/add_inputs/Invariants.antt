use Rattle.std.proofs.Common.{◌≡◌, ℕ, List, drop, map}
use Rattle.cg_sv.specs.Views.{port_of}
use Rattle.cg_sveval.specs.Lookups.{value_in}
use Rattle.cg_sveval.specs.Tables.{with_inputs}
use Rattle.cg_sveval.proofs.stages.add_inputs.Given as goal

-- what is known, with the inputs that are left, is all
abbrev pub invariant-loop-port : goal.invariant-loop-port
invariant-loop-port l = (n : List ℕ) → with_inputs l.cells (value_in l.known) (map port_of (drop l.port-index l.ports)) n ≡ with_inputs l.cells (value_in l.fn.known) (map port_of l.ports) n
