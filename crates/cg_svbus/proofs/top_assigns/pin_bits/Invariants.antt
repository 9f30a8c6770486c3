use Rattle.std.proofs.Common.{◌≡◌, ◌++◌, drop, map}
use Rattle.cg_sv.specs.Views.{expression_of}
use Rattle.cg_topspec.specs.Nets.{pin_output_bit}
use Rattle.cg_svbus.proofs.top_assigns.pin_bits.Given as goal

-- the parts so far, and then those of the bits that are left, are all
abbrev pub invariant-loop-bit : goal.invariant-loop-bit
invariant-loop-bit l =
    map expression_of l.parts.items ++ map (pin_output_bit l.top) (drop l.bit-index l.bits) ≡ map (pin_output_bit l.top) l.bits
