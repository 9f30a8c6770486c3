use Rattle.std.proofs.Common.{◌≡◌, take}
use Rattle.cg_space.specs.Inner.Tables.{entries_of}
use Rattle.cg_space.proofs.node_ranges.entries.Given as goal

-- the nodes so far have their entries
abbrev pub invariant-loop-coverage : goal.invariant-loop-coverage
invariant-loop-coverage l = l.entries ≡ entries_of (take l.coverage-index l.table)
