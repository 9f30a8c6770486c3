use Rattle.std.proofs.Common.{◌≡◌, ◌++◌, drop, map}
use Rattle.std.specs.List.{slice_get}
use Rattle.cg_irq.specs.Listed.{bits_of, alert_widths, widths_of}
use Rattle.cg_irq.proofs.listing.alerts_of.Given as goal

-- the bits so far and those of the instances that are left are all
abbrev pub invariant-loop-number : goal.invariant-loop-number
invariant-loop-number l =
    l.bits ++ bits_of l.number (map (λ k. alert_widths (slice_get l.top.blocks k)) (drop l.number l.top.kinds)) ≡ bits_of 0 (widths_of alert_widths l.top)
