use Rattle.std.proofs.Common.{◌≡◌, ◌++◌, drop, map}
use Rattle.cg_svspec.specs.Names.{entry_names}
use Rattle.cg_sv.specs.Views.{entry_of}
use Rattle.cg_sv.proofs.names.add_entry_names.Given as goal

-- the names so far, and then those of the entries that are left, are all names
abbrev pub invariant-loop-entry : goal.invariant-loop-entry
invariant-loop-entry l =
    map (λ s. s.now) l.names.items ++ entry_names (map entry_of (drop l.entry-index l.entries))
    ≡ map (λ s. s.now) l.fn.names.items ++ entry_names (map entry_of l.entries)
