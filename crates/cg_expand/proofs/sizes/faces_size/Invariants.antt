use Rattle.std.proofs.Common.{◌≡◌, sum_by, take}
use Rattle.cg_expand.specs.Parts.Sizes.{capped, face_fields, face_rows}
use Rattle.cg_expand.proofs.sizes.faces_size.Given as goal

-- the size of the interfaces so far
abbrev pub invariant-loop-face : goal.invariant-loop-face
invariant-loop-face l = l.size ≡ capped (sum_by face_rows (take l.face-index l.faces)) (sum_by face_fields (take l.face-index l.faces))
