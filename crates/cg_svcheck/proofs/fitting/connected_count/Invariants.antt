use Rattle.std.proofs.Common.{◌≡◌, ◌≤◌, ◌+◌, drop, map, min}
use Rattle.cg_sv.specs.Views.{connection_of}
use Rattle.cg_svcheck.specs.Fitting.{connected_count}
use Rattle.cg_svcheck.proofs.fitting.connected_count.Given as goal

-- the count so far, and what is left, are all
abbrev pub invariant-loop-conn : goal.invariant-loop-conn
invariant-loop-conn l = (min 2 (l.total + connected_count l.name (map connection_of (drop l.conn-index l.conns))) ≡ min 2 (connected_count l.name (map connection_of l.conns))) × (l.total ≤ 2)
