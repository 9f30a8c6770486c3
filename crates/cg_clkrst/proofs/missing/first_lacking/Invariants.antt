use Rattle.cg_finding.specs.Found.{sees}
use Rattle.cg_irq.proofs.Walks.{Walked}
use Rattle.cg_clkrst.specs.Owned.{LacksAt}
use Rattle.cg_clkrst.proofs.missing.first_lacking.Given as goal

-- what those so far lack
abbrev pub invariant-loop-port : goal.invariant-loop-port
invariant-loop-port l = Walked (λ k p. LacksAt l.top l.owned p) l.ports (sees l.first) l.port-index
