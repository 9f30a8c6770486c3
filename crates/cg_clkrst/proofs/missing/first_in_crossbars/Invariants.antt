use Rattle.cg_finding.specs.Found.{sees}
use Rattle.cg_irq.proofs.Walks.{Walked}
use Rattle.cg_clkrst.specs.Owned.{OwnerLacks}
use Rattle.cg_clkrst.specs.declared.tie.Owner.TheVariants.{Xbar}
use Rattle.cg_clkrst.proofs.missing.first_in_crossbars.Given as goal

-- what the clocks of those so far lack
abbrev pub invariant-loop-number : goal.invariant-loop-number
invariant-loop-number l = Walked (λ x listed. OwnerLacks l.top (Xbar x) listed.at) l.top.top.xbars (sees l.first) l.number
