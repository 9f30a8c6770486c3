use Rattle.std.proofs.Common.{◌≡◌, ◌++◌, drop, map}
use Rattle.cg_svspec.specs.Layout.{entries_text}
use Rattle.cg_sv.specs.Views.{entry_of}
use Rattle.cg_sv.proofs.entries.print_entries.Given as goal

-- what is printed, and then the entries that are left, are all entries
abbrev pub invariant-loop-entry : goal.invariant-loop-entry
invariant-loop-entry l =
    l.out ++ entries_text (map entry_of (drop l.entry-index l.entries)) ≡ l.fn.out ++ entries_text (map entry_of l.entries)
