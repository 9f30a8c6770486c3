use Rattle.std.proofs.Common.{◌≡◌, ◌++◌, drop, map}
use Rattle.cg_topread.specs.Described.{use_in}
use Rattle.cg_topread.proofs.described_instances.uses_in.Given as goal

-- those so far and those of the items that are left are all
abbrev pub invariant-loop-item : goal.invariant-loop-item
invariant-loop-item l = l.crossbars ++ map use_in (drop l.item-index l.items) ≡ map use_in l.items
