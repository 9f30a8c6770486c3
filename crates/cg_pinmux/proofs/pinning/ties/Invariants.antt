use Rattle.std.proofs.Common.{◌≡◌}
use Rattle.cg_pinmux.specs.Listed.{ties_below}
use Rattle.cg_pinmux.proofs.pinning.ties.Given as goal

-- the ties of the signals so far
abbrev pub invariant-loop-signal : goal.invariant-loop-signal
invariant-loop-signal l = l.ties ≡ ties_below l.signals l.signal-index
