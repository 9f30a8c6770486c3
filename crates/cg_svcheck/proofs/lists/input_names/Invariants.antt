use Rattle.std.proofs.Common.{◌≡◌, ◌++◌, drop, map}
use Rattle.cg_svspec.specs.WellFormed.{inputs_of}
use Rattle.cg_sv.specs.Views.{port_of}
use Rattle.cg_svcheck.proofs.lists.input_names.Given as goal

-- the names so far, and then those of the ports that are left, are all
abbrev pub invariant-loop-port : goal.invariant-loop-port
invariant-loop-port l =
    map (λ s. s.now) l.names.items ++ inputs_of (map port_of (drop l.port-index l.ports)) ≡ inputs_of (map port_of l.ports)
