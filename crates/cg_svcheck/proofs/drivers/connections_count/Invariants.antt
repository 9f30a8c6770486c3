use Rattle.std.proofs.Common.{◌≡◌, ◌≤◌, ◌+◌, drop, map, min}
use Rattle.cg_svspec.specs.WellFormed.{inputs_of}
use Rattle.cg_sv.specs.Views.{port_of, connection_of}
use Rattle.cg_svcheck.specs.Counting.{connections_count}
use Rattle.cg_svcheck.proofs.drivers.connections_count.Given as goal

-- the count so far, and what is left, are all
abbrev pub invariant-loop-conn : goal.invariant-loop-conn
invariant-loop-conn l = (min 2 (l.total + connections_count (inputs_of (map port_of l.ports)) l.«module» l.name (map connection_of (drop l.conn-index l.conns))) ≡ min 2 (connections_count (inputs_of (map port_of l.ports)) l.«module» l.name (map connection_of l.conns))) × (l.total ≤ 2)
