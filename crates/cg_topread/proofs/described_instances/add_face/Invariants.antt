use Rattle.std.proofs.Common.{◌≡◌, ◌++◌, drop, map}
use Rattle.cg_topread.specs.Described.{face_base}
use Rattle.cg_topread.proofs.described_instances.add_face.Given as goal

-- the bases so far and those that are left are all
abbrev pub invariant-loop-base : goal.invariant-loop-base
invariant-loop-base l = l.faces ++ map (face_base l.face) (drop l.base-index l.bases) ≡ l.initial.faces ++ map (face_base l.face) l.bases
