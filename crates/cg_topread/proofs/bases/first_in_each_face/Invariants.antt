use Rattle.std.proofs.Common.{◌≡◌, drop, map}
use Rattle.std.specs.List.{flat_map}
use Rattle.cg_finding.specs.Finding.{earlier, first_of}
use Rattle.cg_finding.specs.Found.{sees}
use Rattle.cg_topread.specs.Listed.{face_faults}
use Rattle.cg_topread.proofs.bases.first_in_each_face.Given as goal

-- what was found and what the members that are left break have the first of all
abbrev pub invariant-loop-face : goal.invariant-loop-face
invariant-loop-face l =
    earlier (sees l.first) (first_of (flat_map face_faults (map (λ m. m.now) (drop l.face-index l.faces))))
    ≡ first_of (flat_map face_faults (map (λ m. m.now) l.faces))
