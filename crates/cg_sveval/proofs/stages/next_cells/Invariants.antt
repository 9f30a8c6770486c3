use Rattle.std.proofs.Common.{◌≡◌, ◌++◌, drop, map}
use Rattle.cg_sv.specs.Views.{entry_of}
use Rattle.cg_sveval.specs.Lookups.{value_in}
use Rattle.cg_sveval.specs.Tables.{next_cells}
use Rattle.cg_sveval.proofs.stages.next_cells.Given as goal

-- the cells so far, and then those of the entries that are left, are all
abbrev pub invariant-loop-entry : goal.invariant-loop-entry
invariant-loop-entry l = l.cells ++ next_cells (value_in l.known) (map entry_of (drop l.entry-index l.entries)) ≡ next_cells (value_in l.known) (map entry_of l.entries)
