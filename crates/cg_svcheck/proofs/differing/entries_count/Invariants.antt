use Rattle.std.proofs.Common.{◌≡◌, ◌≤◌, ◌+◌, drop, map, min}
use Rattle.cg_sv.specs.Views.{entry_of}
use Rattle.cg_svcheck.specs.Counting.{entries_count}
use Rattle.cg_svcheck.proofs.differing.entries_count.Given as goal

-- the count so far, and what is left, are all
abbrev pub invariant-loop-entry : goal.invariant-loop-entry
invariant-loop-entry l = (min 2 (l.total + entries_count l.name (map entry_of (drop l.entry-index l.entries))) ≡ min 2 (entries_count l.name (map entry_of l.entries))) × (l.total ≤ 2)
