use Rattle.std.proofs.Common.{◌≡◌, ◌++◌, drop, map}
use Rattle.cg_topread.specs.Described.{name_in}
use Rattle.cg_topread.proofs.described.add_names.Given as goal

-- the names so far and those of the items that are left are all
abbrev pub invariant-loop-item : goal.invariant-loop-item
invariant-loop-item l = l.names ++ map name_in (drop l.item-index l.items) ≡ l.initial.names ++ map name_in l.items
