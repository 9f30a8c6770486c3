use Rattle.std.proofs.Common.{◌≡◌, ◌++◌, drop, map}
use Rattle.cg_sv.specs.Views.{expression_of}
use Rattle.cg_topspec.specs.Top.{counting}
use Rattle.cg_topspec.specs.TopModule.{pin_source, port_bit}
use Rattle.cg_svbus.proofs.top_wires.pin_sources.Given as goal

-- the parts so far, and then those of the bits that are left, are all
abbrev pub invariant-loop-bit : goal.invariant-loop-bit
invariant-loop-bit l =
    map expression_of l.parts.items ++ map (λ k. pin_source l.top l.pins (port_bit l.inst l.number k)) (drop l.bit-index (counting 0 l.width))
    ≡ map (λ k. pin_source l.top l.pins (port_bit l.inst l.number k)) (counting 0 l.width)
