use Rattle.std.proofs.Common.{◌≡◌, length}
use Rattle.std.specs.Vec.Iter.{into_iter_items, into_iter_len}
use Rattle.cg_layout.proofs.Placing.{IsPlacing}
use Rattle.cg_layout.proofs.layout.laid_faces.Given as goal

-- the interfaces so far, and how many are left
abbrev pub invariant-loop-face_items : goal.invariant-loop-face_items
invariant-loop-face_items l = record {
  placing : IsPlacing l.faces l.fn.items (into_iter_items l.face_items-iterator) l.laid;
  counted : into_iter_len l.face_items-iterator ≡ length (into_iter_items l.face_items-iterator);
}
