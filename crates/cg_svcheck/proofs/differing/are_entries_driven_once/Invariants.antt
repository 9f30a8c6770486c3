use Rattle.std.proofs.Common.{◌≡◌, drop, map}
use Rattle.std.specs.List.{list_all}
use Rattle.cg_svspec.specs.WellFormed.{inputs_of}
use Rattle.cg_sv.specs.Views.{port_of, entry_of, module_of}
use Rattle.cg_svcheck.specs.Counting.{is_driven_once, entry_passes}
use Rattle.cg_svcheck.proofs.differing.are_entries_driven_once.Given as goal

-- what is left says what all say
abbrev pub invariant-loop-entry : goal.invariant-loop-entry
invariant-loop-entry l = list_all (entry_passes (inputs_of (map port_of l.«module».ports)) (is_driven_once (module_of l.«module»))) (map entry_of (drop l.entry-index l.entries)) ≡ list_all (entry_passes (inputs_of (map port_of l.«module».ports)) (is_driven_once (module_of l.«module»))) (map entry_of l.entries)
