use Rattle.std.proofs.Common.{◌≡◌, drop, map}
use Rattle.std.specs.List.{list_all}
use Rattle.cg_sv.specs.Views.{entry_of, module_of}
use Rattle.cg_svcheck.specs.Counting.{is_entry_once}
use Rattle.cg_svcheck.proofs.differing.are_entries_once.Given as goal

-- what is left says what all say
abbrev pub invariant-loop-entry : goal.invariant-loop-entry
invariant-loop-entry l = list_all (is_entry_once (module_of l.«module»)) (map entry_of (drop l.entry-index l.entries)) ≡ list_all (is_entry_once (module_of l.«module»)) (map entry_of l.entries)
