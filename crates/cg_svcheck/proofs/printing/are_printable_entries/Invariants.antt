use Rattle.std.proofs.Common.{◌≡◌, drop, map}
use Rattle.std.specs.List.{list_all}
use Rattle.cg_sv.specs.Views.{entry_of}
use Rattle.cg_svcheck.specs.Printing.{is_printable_entry}
use Rattle.cg_svcheck.proofs.printing.are_printable_entries.Given as goal

-- what the entries that are left say is what all say
abbrev pub invariant-loop-entry : goal.invariant-loop-entry
invariant-loop-entry l = list_all is_printable_entry (map entry_of (drop l.entry-index l.entries)) ≡ list_all is_printable_entry (map entry_of l.entries)
