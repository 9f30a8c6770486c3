use Rattle.std.proofs.Common.{◌≡◌, drop}
use Rattle.cg_topspec.specs.TopModule.{pad_driver}
use Rattle.cg_svbus.proofs.top_bits.pad_driver.Given as goal

-- the driver among the ties that are left is that among all
abbrev pub invariant-loop-tie : goal.invariant-loop-tie
invariant-loop-tie l = pad_driver l.top l.pad (drop l.tie-index l.ties) ≡ pad_driver l.top l.pad l.ties
