use Rattle.std.proofs.Common.{◌≡◌, ◌++◌, drop, map}
use Rattle.cg_xbread.specs.Described.{range_of}
use Rattle.cg_xbread.proofs.described.ranges_of.Given as goal

-- the ranges so far and those of the items that are left are all
abbrev pub invariant-loop-item : goal.invariant-loop-item
invariant-loop-item l = l.ranges ++ map range_of (drop l.item-index l.items) ≡ map range_of l.items
