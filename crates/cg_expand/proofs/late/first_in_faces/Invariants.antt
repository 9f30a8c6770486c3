use Rattle.std.proofs.Common.{◌≡◌, drop}
use Rattle.std.specs.List.{flat_map}
use Rattle.cg_finding.specs.Finding.{earlier, first_of}
use Rattle.cg_finding.specs.Found.{sees}
use Rattle.cg_expand.specs.Parts.Faults.{face_faults}
use Rattle.cg_expand.proofs.late.first_in_faces.Given as goal

-- what was found, and what the interfaces that are left break, have the first of all
abbrev pub invariant-loop-face : goal.invariant-loop-face
invariant-loop-face l =
    earlier (sees l.first) (first_of (flat_map face_faults (drop l.face-index l.faces))) ≡ first_of (flat_map face_faults l.faces)
