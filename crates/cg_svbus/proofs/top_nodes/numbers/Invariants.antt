use Rattle.std.proofs.Common.{◌≡◌, ◌-◌, ◌++◌}
use Rattle.cg_topspec.specs.Top.{counting}
use Rattle.cg_svbus.proofs.top_nodes.numbers.Given as goal

-- the numbers so far, and then those that are left, are all
abbrev pub invariant-loop-number : goal.invariant-loop-number
invariant-loop-number l = l.numbers.items ++ counting l.number (l.count - l.number) ≡ counting 0 l.count
