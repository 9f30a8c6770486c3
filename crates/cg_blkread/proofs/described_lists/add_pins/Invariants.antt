use Rattle.std.proofs.Common.{◌≡◌, ◌++◌, drop, map}
use Rattle.cg_blkread.specs.Described.{pin_desc}
use Rattle.cg_blkread.proofs.described_lists.add_pins.Given as goal

-- the pins so far and those of the items that are left are all
abbrev pub invariant-loop-item : goal.invariant-loop-item
invariant-loop-item l = l.pins ++ map (pin_desc l.dir) (drop l.item-index l.items) ≡ l.fn.pins ++ map (pin_desc l.dir) l.items
