use Rattle.std.proofs.Common.{◌≡◌, ◌++◌, ◌&&◌, drop}
use Rattle.cg_svspec.specs.Bits.{zipped}
use Rattle.cg_sveval.proofs.bits.and_of.Given as goal

-- the bits so far, and then those of what is left, are all
abbrev pub invariant-loop-place : goal.invariant-loop-place
invariant-loop-place l = l.found.items ++ zipped ◌&&◌ (drop l.place l.left) (drop l.place l.right) ≡ zipped ◌&&◌ l.left l.right
