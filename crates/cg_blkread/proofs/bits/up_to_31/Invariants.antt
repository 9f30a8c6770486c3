use Rattle.std.proofs.Common.{◌≡◌, ◌≤◌, drop}
use Rattle.cg_blkread.specs.Bits.{up_to_31}
use Rattle.cg_blkread.proofs.bits.up_to_31.Given as goal

-- the digits that are left go on from the number so far
abbrev pub invariant-loop-digit : goal.invariant-loop-digit
invariant-loop-digit l = record { small : l.sum ≤ 31; rest : up_to_31 l.sum (drop l.digit-index l.digits) ≡ up_to_31 0 l.digits }
