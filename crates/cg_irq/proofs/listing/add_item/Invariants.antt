use Rattle.std.proofs.Common.{◌≡◌, ◌++◌, ◌-◌}
use Rattle.cg_irq.specs.Listed.{item_bits}
use Rattle.cg_irq.proofs.listing.add_item.Given as goal

-- the bits so far and those that are left are all
abbrev pub invariant-loop-bit : goal.invariant-loop-bit
invariant-loop-bit l = l.bits ++ item_bits l.inst l.item l.bit (l.width - l.bit) ≡ l.initial.bits ++ item_bits l.inst l.item 0 l.width
