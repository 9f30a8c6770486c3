use Rattle.std.proofs.Common.{◌≡◌, ◌++◌, drop, map}
use Rattle.std.specs.List.{flat_map}
use Rattle.cg_hdrspec.specs.BlockHeader.{face_definitions}
use Rattle.cg_blkhdr.specs.Small.{FacesAreSmall}
use Rattle.cg_blkhdr.specs.Views.{definition_of}
use Rattle.cg_blkhdr.proofs.definitions.add_faces.Given as goal

-- the definitions so far, and then those of the interfaces that are left, are all definitions
abbrev pub invariant-loop-face : goal.invariant-loop-face
invariant-loop-face l = record {
  definitions : map definition_of l.definitions ++ flat_map (face_definitions l.block) (drop l.face-index l.faces)
      ≡ map definition_of l.fn.definitions ++ flat_map (face_definitions l.block) l.faces;
  small : FacesAreSmall (drop l.face-index l.faces);
}
