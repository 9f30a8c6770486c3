use Rattle.std.proofs.Common.{◌≡◌, drop, map}
use Rattle.std.specs.List.{list_all}
use Rattle.cg_sv.specs.Views.{entry_of}
use Rattle.cg_svcheck.specs.Lookups.{has, is_wire_in}
use Rattle.cg_svcheck.proofs.judged.are_wires_in.Given as goal

-- what is left says what all say
abbrev pub invariant-loop-entry : goal.invariant-loop-entry
invariant-loop-entry l =
    list_all (is_wire_in (has l.driven)) (map entry_of (drop l.entry-index l.entries)) ≡ list_all (is_wire_in (has l.driven)) (map entry_of l.entries)
