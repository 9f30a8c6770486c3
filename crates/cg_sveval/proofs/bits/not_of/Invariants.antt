use Rattle.std.proofs.Common.{◌≡◌, ◌++◌, drop, map, not}
use Rattle.cg_sveval.proofs.bits.not_of.Given as goal

-- the turned bits so far, and then those that are left, are all
abbrev pub invariant-loop-bit : goal.invariant-loop-bit
invariant-loop-bit l = l.found.items ++ map not (drop l.bit-index l.value) ≡ map not l.value
