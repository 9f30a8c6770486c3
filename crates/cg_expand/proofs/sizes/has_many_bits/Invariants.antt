use Rattle.std.proofs.Common.{◌≡◌, min, sum_by, take}
use Rattle.cg_expand.proofs.sizes.has_many_bits.Given as goal

-- the bits of the interrupts so far, as far as one past the limit
abbrev pub invariant-loop-interrupt : goal.invariant-loop-interrupt
invariant-loop-interrupt l = l.bits ≡ min (sum_by (λ i. i.width) (take l.interrupt-index l.interrupts)) 33
