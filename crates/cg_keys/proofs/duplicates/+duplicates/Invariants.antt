use Rattle.std.proofs.Common.{◌≡◌, drop}
use Rattle.std.specs.List.{flat_map}
use Rattle.cg_finding.specs.Finding.{earlier, first_of}
use Rattle.cg_finding.specs.Found.{sees}
use Rattle.cg_keys.specs.Duplicates.{duplicate_faults}
use Rattle.cg_keys.proofs.duplicates.+duplicates.Given as goal

-- what was found and what is left below the members have the first of all
abbrev pub invariant-first_below_members-loop-member : goal.invariant-first_below_members-loop-member
invariant-first_below_members-loop-member l =
    earlier (sees l.first) (first_of (flat_map (λ m. duplicate_faults m.value) (drop l.member-index l.members)))
    ≡ first_of (flat_map (λ m. duplicate_faults m.value) l.members)

-- what was found and what is left in the items have the first of all
abbrev pub invariant-first_below_items-loop-item : goal.invariant-first_below_items-loop-item
invariant-first_below_items-loop-item l =
    earlier (sees l.first) (first_of (flat_map duplicate_faults (drop l.item-index l.items)))
    ≡ first_of (flat_map duplicate_faults l.items)
