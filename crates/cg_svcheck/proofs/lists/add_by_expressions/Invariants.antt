use Rattle.std.proofs.Common.{◌≡◌, ◌++◌, drop, map}
use Rattle.cg_svspec.specs.WellFormed.{expression_driven}
use Rattle.cg_sv.specs.Views.{entry_of}
use Rattle.cg_svcheck.proofs.lists.add_by_expressions.Given as goal

-- the names so far, and then those of the entries that are left, are all
abbrev pub invariant-loop-entry : goal.invariant-loop-entry
invariant-loop-entry l =
    map (λ s. s.now) l.names.items ++ expression_driven (map entry_of (drop l.entry-index l.entries))
    ≡ map (λ s. s.now) l.fn.names.items ++ expression_driven (map entry_of l.entries)
