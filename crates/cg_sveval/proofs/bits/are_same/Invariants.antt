use Rattle.std.proofs.Common.{◌≡◌, drop}
use Rattle.cg_svspec.specs.Bits.{same_bits}
use Rattle.cg_sveval.proofs.bits.are_same.Given as goal

-- all bits are the same just where those are that are left
abbrev pub invariant-loop-place : goal.invariant-loop-place
invariant-loop-place l = same_bits (drop l.place l.left) (drop l.place l.right) ≡ same_bits l.left l.right
