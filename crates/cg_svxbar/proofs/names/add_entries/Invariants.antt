use Rattle.std.proofs.Common.{◌≡◌, ◌++◌, drop, map}
use Rattle.cg_sv.specs.Views.{entry_of}
use Rattle.cg_svspec.specs.Names.{entry_names}
use Rattle.cg_svxbar.proofs.names.add_entries.Given as goal

-- the names so far, and then those of the entries that are left, are all
abbrev pub invariant-loop-entry : goal.invariant-loop-entry
invariant-loop-entry l =
    l.names ++ entry_names (map entry_of (drop l.entry-index l.entries)) ≡ l.fn.names ++ entry_names (map entry_of l.entries)
