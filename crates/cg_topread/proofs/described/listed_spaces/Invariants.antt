use Rattle.std.proofs.Common.{◌≡◌, ◌++◌, drop, map}
use Rattle.cg_topread.specs.Described.{space_in}
use Rattle.cg_topread.proofs.described.listed_spaces.Given as goal

-- those so far and those of the items that are left are all
abbrev pub invariant-loop-item : goal.invariant-loop-item
invariant-loop-item l = l.spaces ++ map space_in (drop l.item-index l.items) ≡ map space_in l.items
