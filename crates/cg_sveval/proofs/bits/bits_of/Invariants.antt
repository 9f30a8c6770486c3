use Rattle.std.proofs.Common.{◌≡◌, ◌++◌, ◌-◌}
use Rattle.cg_svspec.specs.Bits.{bits}
use Rattle.cg_sveval.proofs.bits.bits_of.Given as goal

-- the bits so far, and then those of the rest, are all bits
abbrev pub invariant-loop : goal.invariant-loop
invariant-loop l = l.found.items ++ bits (l.width - l.counter) l.rest ≡ bits l.width l.value
