use Rattle.std.proofs.Common.{◌≡◌, ◌++◌, drop, map}
use Rattle.cg_irq.specs.Listed.{list_bits}
use Rattle.cg_irq.proofs.listing.add_alerts.Given as goal

-- the bits so far and those of the alerts that are left are all
abbrev pub invariant-loop-item : goal.invariant-loop-item
invariant-loop-item l = l.bits ++ list_bits l.inst l.item (map (λ alert. 1) (drop l.item l.alerts)) ≡ l.initial.bits ++ list_bits l.inst 0 (map (λ alert. 1) l.alerts)
