use Rattle.std.proofs.Common.{◌≡◌, ◌++◌, drop, map}
use Rattle.cg_blkread.specs.Described.{interrupt_desc}
use Rattle.cg_blkread.proofs.described_lists.describe_interrupts.Given as goal

-- the interrupts so far and those of the items that are left are all
abbrev pub invariant-loop-item : goal.invariant-loop-item
invariant-loop-item l = l.interrupts ++ map interrupt_desc (drop l.item-index l.items) ≡ map interrupt_desc l.items
