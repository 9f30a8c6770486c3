use Rattle.std.proofs.Common.{◌≡◌, ◌++◌, drop, map}
use Rattle.cg_blkread.specs.Described.{clock_desc}
use Rattle.cg_blkread.proofs.described_lists.describe_clocks.Given as goal

-- the clocks so far and those of the items that are left are all
abbrev pub invariant-loop-item : goal.invariant-loop-item
invariant-loop-item l = l.clocks ++ map clock_desc (drop l.item-index l.items) ≡ map clock_desc l.items
