use Rattle.cg_clkrst.specs.Owned.{AreTied, uses_before}
use Rattle.cg_clkrst.proofs.listing.add_crossbars.Given as goal

-- the clocks of the crossbars so far are tied
abbrev pub invariant-loop-number : goal.invariant-loop-number
invariant-loop-number l = AreTied l.top (uses_before l.top 0) l.initial.ties → AreTied l.top (uses_before l.top l.number) l.ties
