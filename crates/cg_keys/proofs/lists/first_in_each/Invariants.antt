use Rattle.std.proofs.Common.{◌≡◌, drop, map}
use Rattle.cg_finding.specs.Finding.{earlier, first_of}
use Rattle.cg_finding.specs.Found.{sees}
use Rattle.cg_keys.specs.Elements.{each_faults}
use Rattle.cg_keys.specs.Table.{key_of}
use Rattle.cg_keys.proofs.lists.first_in_each.Given as goal

-- what was found and what is wrong in the values that are left have the first of all
abbrev pub invariant-loop-item : goal.invariant-loop-item
invariant-loop-item l =
    earlier (sees l.first) (first_of (each_faults (map key_of l.rows) (drop l.item-index l.items)))
    ≡ first_of (each_faults (map key_of l.rows) l.items)
