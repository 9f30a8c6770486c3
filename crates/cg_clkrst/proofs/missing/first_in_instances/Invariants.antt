use Rattle.cg_finding.specs.Found.{sees}
use Rattle.cg_irq.proofs.Walks.{Walked}
use Rattle.cg_clkrst.specs.Owned.{OwnerLacks}
use Rattle.cg_clkrst.specs.declared.tie.Owner.TheVariants.{Inst}
use Rattle.cg_clkrst.proofs.missing.first_in_instances.Given as goal

-- what the ports of those so far lack
abbrev pub invariant-loop-number : goal.invariant-loop-number
invariant-loop-number l = Walked (λ i inst. OwnerLacks l.top (Inst i) inst.at) l.top.top.insts (sees l.first) l.number
