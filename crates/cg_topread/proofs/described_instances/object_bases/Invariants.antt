use Rattle.std.proofs.Common.{◌≡◌, ◌++◌, length, map}
use Rattle.cg_topread.specs.Described.{base_of, object_bases}
use Rattle.cg_topread.proofs.KeyOrder.{shown}
use Rattle.cg_topread.proofs.described_instances.object_bases.Given as goal

-- those so far and those of the entries that are left are all
abbrev pub invariant-loop-space : goal.invariant-loop-space
invariant-loop-space l = l.listed ++ map (base_of) (shown l.left.entries) ≡ object_bases l.bases

abbrev pub decreases-loop-space : goal.decreases-loop-space
decreases-loop-space l = length l.left.entries
