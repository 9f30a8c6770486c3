use Rattle.std.proofs.Common.{◌≡◌, ◌++◌, drop, map}
use Rattle.cg_sv.specs.Views.{parameter_of}
use Rattle.cg_topspec.specs.Top.{block_of}
use Rattle.cg_topspec.specs.TopModule.{address_width}
use Rattle.cg_svbus.proofs.top_faces.address_widths.Given as goal

-- the parameters so far, and then those of the interfaces that are left, are all
abbrev pub invariant-loop-face : goal.invariant-loop-face
invariant-loop-face l =
    map parameter_of l.params ++ map address_width (drop l.face-index (block_of l.top l.inst).faces) ≡ map address_width (block_of l.top l.inst).faces
