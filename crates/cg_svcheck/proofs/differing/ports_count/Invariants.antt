use Rattle.std.proofs.Common.{◌≡◌, ◌≤◌, ◌+◌, drop, map, min}
use Rattle.cg_sv.specs.Views.{port_of}
use Rattle.cg_svcheck.specs.Counting.{ports_count}
use Rattle.cg_svcheck.proofs.differing.ports_count.Given as goal

-- the count so far, and what is left, are all
abbrev pub invariant-loop-port : goal.invariant-loop-port
invariant-loop-port l = (min 2 (l.total + ports_count l.name (map port_of (drop l.port-index l.ports))) ≡ min 2 (ports_count l.name (map port_of l.ports))) × (l.total ≤ 2)
