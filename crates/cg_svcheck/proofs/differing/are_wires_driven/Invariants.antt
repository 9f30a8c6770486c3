use Rattle.std.proofs.Common.{◌≡◌, drop, map}
use Rattle.std.specs.List.{list_all}
use Rattle.cg_sv.specs.Views.{entry_of, module_of}
use Rattle.cg_svcheck.specs.Counting.{is_wire_driven}
use Rattle.cg_svcheck.proofs.differing.are_wires_driven.Given as goal

-- what is left says what all say
abbrev pub invariant-loop-entry : goal.invariant-loop-entry
invariant-loop-entry l = list_all (is_wire_driven (module_of l.«module»)) (map entry_of (drop l.entry-index l.entries)) ≡ list_all (is_wire_driven (module_of l.«module»)) (map entry_of l.entries)
