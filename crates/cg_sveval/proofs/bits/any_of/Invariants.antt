use Rattle.std.proofs.Common.{◌≡◌, drop}
use Rattle.cg_svspec.specs.Bits.{any_bit}
use Rattle.cg_sveval.proofs.bits.any_of.Given as goal

-- some bit is 1 just where one is 1 of those that are left
abbrev pub invariant-loop-bit : goal.invariant-loop-bit
invariant-loop-bit l = any_bit (drop l.bit-index l.value) ≡ any_bit l.value
