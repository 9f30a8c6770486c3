use Rattle.std.proofs.Common.{◌≡◌, ◌++◌, drop, length, map}
use Rattle.cg_sv.specs.Views.{expression_of}
use Rattle.cg_topspec.specs.Top.{counting}
use Rattle.cg_topspec.specs.TopModule.{pad_driver, pad_outputs}
use Rattle.cg_svbus.proofs.top_assigns.pad_outputs.Given as goal

-- the parts so far, and then those of the pads that are left, are all
abbrev pub invariant-loop-pad : goal.invariant-loop-pad
invariant-loop-pad l =
    map expression_of l.parts.items ++ map (λ pad. pad_driver l.top pad l.pins.pads) (drop l.pad-index (counting 0 (length l.top.top.pads))) ≡ pad_outputs l.top l.pins
