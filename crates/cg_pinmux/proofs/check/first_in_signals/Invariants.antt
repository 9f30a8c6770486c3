use Rattle.cg_finding.specs.Found.{sees}
use Rattle.cg_pinmux.proofs.Telling.{Breaks}
use Rattle.cg_pinmux.proofs.Walks.{Walked}
use Rattle.cg_pinmux.proofs.check.first_in_signals.Given as goal

-- what the signals so far break
abbrev pub invariant-loop-number : goal.invariant-loop-number
invariant-loop-number l = Walked (Breaks l.top) l.top.top.signals (sees l.first) l.number
