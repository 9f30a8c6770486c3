use Rattle.std.proofs.Common.{◌≡◌, ℕ, drop, false}
use Rattle.cg_base.specs.Number.Scan.{StandsFor, digits_from}
use Rattle.cg_base.proofs.number.digits_number.Given as goal

-- the digits so far have some value n, from which the rest goes on
abbrev pub invariant-loop-byte : goal.invariant-loop-byte
invariant-loop-byte l = (n : ℕ) × (digits_from l.base l.after_digit n (drop l.byte-index l.bytes) ≡ digits_from l.base false 0 l.bytes) × StandsFor l.number n
