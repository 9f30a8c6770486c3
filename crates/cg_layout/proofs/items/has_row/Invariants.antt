use Rattle.std.proofs.Common.{◌≡◌, drop}
use Rattle.cg_layout.specs.Inner.Gates.{has_row}
use Rattle.cg_layout.proofs.items.has_row.Given as goal

-- the items that are left have a row exactly where the items have one
abbrev pub invariant-loop-item : goal.invariant-loop-item
invariant-loop-item l = has_row (drop l.item-index l.items) ≡ has_row l.items
