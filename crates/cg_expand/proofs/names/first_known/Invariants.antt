use Rattle.std.proofs.Common.{◌≡◌, drop}
use Rattle.cg_finding.specs.Finding.{earlier, first_of}
use Rattle.cg_finding.specs.Found.{sees}
use Rattle.cg_expand.specs.Parts.Names.{has, names_twice}
use Rattle.cg_expand.proofs.names.first_known.Given as goal

-- what was found, and what the items that are left break, have the first of all
abbrev pub invariant-loop-item : goal.invariant-loop-item
invariant-loop-item l =
    earlier (sees l.first) (first_of (names_twice (has l.known) (drop l.item-index l.items)))
    ≡ first_of (names_twice (has l.fn.known) l.items)
