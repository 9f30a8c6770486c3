use Rattle.std.proofs.Common.{◌≡◌, ◌++◌, drop}
use Rattle.cg_nodes.specs.Listed.{numbers_of}
use Rattle.cg_nodes.proofs.parts.numbers_of.Given as goal

-- the numbers so far and those of the nodes that are left are all
abbrev pub invariant-loop-number : goal.invariant-loop-number
invariant-loop-number l = l.numbers ++ numbers_of l.host l.number (drop l.number l.nodes) ≡ numbers_of l.host 0 l.nodes
