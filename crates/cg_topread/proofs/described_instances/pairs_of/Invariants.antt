use Rattle.std.proofs.Common.{◌≡◌, ◌++◌, length, map}
use Rattle.cg_topread.specs.Described.{pair_of, pairs_of}
use Rattle.cg_topread.proofs.KeyOrder.{shown}
use Rattle.cg_topread.proofs.described_instances.pairs_of.Given as goal

-- those so far and those of the entries that are left are all
abbrev pub invariant-loop-port : goal.invariant-loop-port
invariant-loop-port l = l.pairs ++ map (pair_of l.key) (shown l.left.entries) ≡ pairs_of l.key l.sources

abbrev pub decreases-loop-port : goal.decreases-loop-port
decreases-loop-port l = length l.left.entries
