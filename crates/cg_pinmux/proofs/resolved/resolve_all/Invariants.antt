use Rattle.cg_pinmux.proofs.Kept.{AreKept}
use Rattle.cg_pinmux.proofs.resolved.resolve_all.Given as goal

-- the signals so far are looked up
abbrev pub invariant-loop-signal : goal.invariant-loop-signal
invariant-loop-signal l = AreKept l.top l.signals l.signal-index
