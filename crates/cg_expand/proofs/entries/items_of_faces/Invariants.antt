use Rattle.std.proofs.Common.{◌≡◌, ◌++◌, drop}
use Rattle.cg_desc.specs.Items.{items_of_faces}
use Rattle.cg_expand.proofs.entries.items_of_faces.Given as goal

-- the interfaces so far, and those that are left behind what stands in front, are all
abbrev pub invariant-loop-face : goal.invariant-loop-face
invariant-loop-face l = l.all ++ items_of_faces l.front (drop l.face-index l.faces) ≡ items_of_faces l.fn.front l.faces
