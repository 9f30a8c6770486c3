use Rattle.std.proofs.Common.{◌≡◌, ◌+◌, ◌++◌, slice_get}
use Rattle.cg_pinmux.specs.Listed.{below, side_bits}
use Rattle.cg_pinmux.specs.Regions.{ports_of}
use Rattle.cg_pinmux.proofs.numbered.add_region.Given as goal

-- the bits so far
abbrev pub invariant-loop-place : goal.invariant-loop-place
invariant-loop-place l =
    l.bits ≡ l.initial.bits ++ below (λ k. side_bits l.side l.region (l.region.first + k) (slice_get (ports_of l.top l.region.inst) (l.region.first + k))) l.place
