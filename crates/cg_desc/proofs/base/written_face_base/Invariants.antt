use Rattle.std.proofs.Common.{◌≡◌, drop}
use Rattle.cg_desc.specs.Bases.{written_face_base}
use Rattle.cg_desc.proofs.base.written_face_base.Given as goal

-- the bases that are left have the same one
abbrev pub invariant-loop-base : goal.invariant-loop-base
invariant-loop-base l = written_face_base (drop l.base-index l.bases) l.face l.space ≡ written_face_base l.bases l.face l.space
