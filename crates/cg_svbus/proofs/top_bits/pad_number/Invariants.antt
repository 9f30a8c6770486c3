use Rattle.std.proofs.Common.{◌≡◌, drop}
use Rattle.cg_topspec.specs.TopModule.{pad_number}
use Rattle.cg_svbus.proofs.top_bits.pad_number.Given as goal

-- the pad among the ties that are left is that among all
abbrev pub invariant-loop-tie : goal.invariant-loop-tie
invariant-loop-tie l = pad_number l.bit (drop l.tie-index l.ties) ≡ pad_number l.bit l.ties
