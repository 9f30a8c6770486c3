use Rattle.std.proofs.Common.{◌++◌, List, map, take}
use Rattle.cg_clkrst.specs.Owned.{AreApart, AreTied, port_at}
use Rattle.cg_clkrst.specs.Ports.{TiePort}
use Rattle.cg_clkrst.proofs.listing.add_ties.Given as goal

-- the ports so far are tied behind those before them
abbrev pub invariant-loop-number : goal.invariant-loop-number
invariant-loop-number l =
    (uses : List TiePort) → AreTied l.top uses l.initial.ties → AreApart uses (map (port_at l.owned.owner) l.ports)
    → AreTied l.top (uses ++ map (port_at l.owned.owner) (take l.number l.ports)) l.ties
