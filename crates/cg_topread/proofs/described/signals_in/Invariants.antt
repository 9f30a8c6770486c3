use Rattle.std.proofs.Common.{◌≡◌, ◌++◌, drop, map}
use Rattle.cg_topread.specs.Described.{signal_in}
use Rattle.cg_topread.proofs.described.signals_in.Given as goal

-- those so far and those of the items that are left are all
abbrev pub invariant-loop-item : goal.invariant-loop-item
invariant-loop-item l = l.signals ++ map signal_in (drop l.item-index l.items) ≡ map signal_in l.items
