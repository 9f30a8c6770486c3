use Rattle.std.proofs.Common.{◌≡◌, ◌++◌, drop, map}
use Rattle.cg_blkhdr.specs.Views.{definition_of}
use Rattle.cg_blkhdr.proofs.header.add_names.Given as goal

-- the names so far, and then those of the definitions that are left, are all names
abbrev pub invariant-loop-definition : goal.invariant-loop-definition
invariant-loop-definition l =
    map (λ s. s.now) l.names.items ++ map (λ d. d.name) (map definition_of (drop l.definition-index l.definitions))
    ≡ map (λ s. s.now) l.fn.names.items ++ map (λ d. d.name) (map definition_of l.definitions)
