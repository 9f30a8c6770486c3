use Rattle.std.proofs.Common.{◌≡◌, ◌++◌, ℕ, List, drop, map}
use Rattle.cg_svspec.specs.WellFormed.{instance_driven}
use Rattle.cg_sv.specs.Views.{entry_of}
use Rattle.cg_svcheck.specs.Lookups.{Holds}
use Rattle.cg_svcheck.proofs.lists.add_by_instances.Given as goal

-- the names so far, and then those of the entries that are left, are all
abbrev pub invariant-loop-entry : goal.invariant-loop-entry
invariant-loop-entry l =
    (ins : List (List ℕ)) → Holds l.inputs ins → map (λ s. s.now) l.names.items ++ instance_driven ins (map entry_of (drop l.entry-index l.entries))
    ≡ map (λ s. s.now) l.fn.names.items ++ instance_driven ins (map entry_of l.entries)
