use Rattle.std.proofs.Common.{◌≡◌, ◌++◌, drop, map}
use Rattle.cg_svspec.specs.Tree.{expressions}
use Rattle.cg_sv.specs.Views.{expression_of}
use Rattle.cg_svcheck.specs.Lookups.{bare_names}
use Rattle.cg_svcheck.proofs.lists.add_bare.Given as goal

-- the names so far, and then those of the parts that are left, are all
abbrev pub invariant-loop-part : goal.invariant-loop-part
invariant-loop-part l =
    map (λ s. s.now) l.names.items ++ bare_names (expressions (map expression_of (drop l.part-index l.parts)))
    ≡ map (λ s. s.now) l.fn.names.items ++ bare_names (expressions (map expression_of l.parts))
