use Rattle.std.proofs.Common.{◌≡◌, drop}
use Rattle.std.specs.List.{flat_map}
use Rattle.cg_finding.specs.Finding.{earlier, first_of}
use Rattle.cg_finding.specs.Found.{sees}
use Rattle.cg_topread.specs.Listed.{use_faults}
use Rattle.cg_topread.proofs.instances.first_in_each_use.Given as goal

-- what was found and what the items that are left break have the first of all
abbrev pub invariant-loop-item : goal.invariant-loop-item
invariant-loop-item l =
    earlier (sees l.first) (first_of (flat_map use_faults (drop l.item-index l.items)))
    ≡ first_of (flat_map use_faults l.items)
