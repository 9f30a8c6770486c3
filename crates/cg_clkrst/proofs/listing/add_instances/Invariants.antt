use Rattle.std.proofs.Common.{[], take}
use Rattle.cg_clkrst.specs.Owned.{AreTied}
use Rattle.cg_clkrst.specs.Ports.{instance_uses}
use Rattle.cg_clkrst.proofs.listing.add_instances.Given as goal

-- the ports of the instances so far are tied
abbrev pub invariant-loop-number : goal.invariant-loop-number
invariant-loop-number l = AreTied l.top [] l.initial.ties → AreTied l.top (instance_uses l.top.blocks 0 (take l.number l.top.kinds)) l.ties
