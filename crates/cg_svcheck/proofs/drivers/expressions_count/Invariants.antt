use Rattle.std.proofs.Common.{◌≡◌, ◌≤◌, ◌+◌, drop, map, min}
use Rattle.cg_sv.specs.Views.{entry_of}
use Rattle.cg_svcheck.specs.Counting.{expressions_count}
use Rattle.cg_svcheck.proofs.drivers.expressions_count.Given as goal

-- the count so far, and what is left, are all
abbrev pub invariant-loop-entry : goal.invariant-loop-entry
invariant-loop-entry l = (min 2 (l.total + expressions_count l.name (map entry_of (drop l.entry-index l.entries))) ≡ min 2 (expressions_count l.name (map entry_of l.entries))) × (l.total ≤ 2)
