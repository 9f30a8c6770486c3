use Rattle.std.proofs.Common.{◌≡◌, ◌≤◌, length}
use Rattle.cg_pinmux.specs.Listed.{bits_below}
use Rattle.cg_pinmux.proofs.numbered.number_bits.Given as goal

-- the bits so far are not too many
abbrev pub invariant-loop-number : goal.invariant-loop-number
invariant-loop-number l = (l.bits ≡ bits_below l.top l.side l.signals l.number) × (length l.bits ≤ 65536)
