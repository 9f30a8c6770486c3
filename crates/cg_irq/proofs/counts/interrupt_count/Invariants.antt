use Rattle.std.proofs.Common.{◌≡◌, ◌+◌, ◌≤◌, drop, map, min}
use Rattle.cg_irq.specs.Listed.{bit_count}
use Rattle.cg_irq.proofs.counts.interrupt_count.Given as goal

-- the count so far, with the interrupts that are left
abbrev pub invariant-loop-intr : goal.invariant-loop-intr
invariant-loop-intr l =
    (l.count ≤ 1025) × (min (l.count + bit_count (map (λ interrupt. interrupt.width) (drop l.intr-index l.intrs))) 1025 ≡ min (bit_count (map (λ interrupt. interrupt.width) l.intrs)) 1025)
