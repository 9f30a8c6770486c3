use Rattle.std.proofs.Common.{◌≡◌, ◌++◌, drop, map}
use Rattle.cg_topread.specs.Described.{instance_in}
use Rattle.cg_topread.proofs.described_instances.instances_in.Given as goal

-- those so far and those of the items that are left are all
abbrev pub invariant-loop-item : goal.invariant-loop-item
invariant-loop-item l = l.instances ++ map instance_in (drop l.item-index l.items) ≡ map instance_in l.items
