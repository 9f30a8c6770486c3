use Rattle.std.proofs.Common.{◌≡◌, ◌++◌, length}
use Rattle.std.specs.Prelude.{flat_map}
use Rattle.cg_topread.specs.Described.{face_bases, faces_bases}
use Rattle.cg_topread.proofs.KeyOrder.{shown}
use Rattle.cg_topread.proofs.described_instances.faces_bases.Given as goal

-- those so far and those of the entries that are left are all
abbrev pub invariant-loop-face : goal.invariant-loop-face
invariant-loop-face l = l.faces ++ flat_map face_bases (shown l.left.entries) ≡ faces_bases l.fn.bases

abbrev pub decreases-loop-face : goal.decreases-loop-face
decreases-loop-face l = length l.left.entries
