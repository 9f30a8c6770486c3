use Rattle.std.proofs.Common.{◌≡◌, ◌≤◌, ◌+◌, drop, map, min}
use Rattle.cg_svspec.specs.WellFormed.{inputs_of}
use Rattle.cg_sv.specs.Views.{port_of, entry_of}
use Rattle.cg_svcheck.specs.Counting.{instances_count}
use Rattle.cg_svcheck.proofs.drivers.instances_count.Given as goal

-- the count so far, and what is left, are all
abbrev pub invariant-loop-entry : goal.invariant-loop-entry
invariant-loop-entry l = (min 2 (l.total + instances_count (inputs_of (map port_of l.ports)) l.name (map entry_of (drop l.entry-index l.entries))) ≡ min 2 (instances_count (inputs_of (map port_of l.ports)) l.name (map entry_of l.entries))) × (l.total ≤ 2)
