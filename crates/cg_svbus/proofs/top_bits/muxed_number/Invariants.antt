use Rattle.std.proofs.Common.{◌≡◌, drop}
use Rattle.cg_topspec.specs.TopModule.{muxed_number}
use Rattle.cg_svbus.proofs.top_bits.muxed_number.Given as goal

-- the number among the bits that are left is that among all
abbrev pub invariant-loop-number : goal.invariant-loop-number
invariant-loop-number l = muxed_number l.bit l.number (drop l.number l.bits) ≡ muxed_number l.bit 0 l.bits
