use Rattle.std.proofs.Common.{drop}
use Rattle.cg_layout.proofs.Ends.{IsReached}
use Rattle.cg_layout.proofs.faults.first_in_offsets.Given as goal

-- the walk has come to the items that are left
abbrev pub invariant-loop-item : goal.invariant-loop-item
invariant-loop-item l = IsReached l.items l.low (drop l.item-index l.items)
