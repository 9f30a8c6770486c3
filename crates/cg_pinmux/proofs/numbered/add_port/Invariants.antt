use Rattle.std.proofs.Common.{◌≡◌, ◌+◌, ◌++◌, [], ◌∷◌}
use Rattle.cg_pinmux.specs.Listed.{below, bit_at}
use Rattle.cg_pinmux.proofs.numbered.add_port.Given as goal

-- the bits so far
abbrev pub invariant-loop-place : goal.invariant-loop-place
invariant-loop-place l = l.bits ≡ l.initial.bits ++ below (λ k. bit_at l.region.inst l.number (l.region.low + k) ∷ []) l.place
