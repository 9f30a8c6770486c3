use Rattle.std.proofs.Common.{◌≡◌, ◌++◌, drop}
use Rattle.cg_busspec.specs.Crossbar.{numbers_of}
use Rattle.cg_svxbar.proofs.nodes.numbers_of.Given as goal

-- the numbers so far, and then those of the nodes that are left, are all numbers
abbrev pub invariant-loop-number : goal.invariant-loop-number
invariant-loop-number l = l.numbers.items ++ numbers_of l.host l.number (drop l.number l.nodes) ≡ numbers_of l.host 0 l.nodes
