use Rattle.std.proofs.Common.{◌≡◌, min, take}
use Rattle.cg_finding.specs.Found.{sees}
use Rattle.cg_irq.specs.Listed.{alert_widths, interrupt_widths, widths_of}
use Rattle.cg_irq.specs.Walked.{PassesWith}
use Rattle.cg_irq.proofs.Walks.{Walked}
use Rattle.cg_irq.proofs.Widths.{total}
use Rattle.cg_irq.proofs.limits.first_past_limit.Given as goal

-- what is found so far, and how many interrupts and alerts there are so far
abbrev pub invariant-loop-number : goal.invariant-loop-number
invariant-loop-number l =
    Walked (PassesWith l.top) l.top.top.insts (sees l.first) l.number
    × (l.interrupts ≡ min (total (take l.number (widths_of interrupt_widths l.top))) 1025)
    × (l.alerts ≡ min (total (take l.number (widths_of alert_widths l.top))) 1025)
