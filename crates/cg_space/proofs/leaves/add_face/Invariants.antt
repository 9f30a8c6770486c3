use Rattle.std.proofs.Common.{◌≡◌}
use Rattle.cg_space.specs.Inner.Leaves.{Adds, AtPlace, Below, face_row}
use Rattle.cg_space.proofs.leaves.add_face.Given as goal

-- the rows so far are there
abbrev pub invariant-loop-number : goal.invariant-loop-number
invariant-loop-number l = Adds l.initial.rows l.rows (Below (AtPlace (λ k laid row. row ≡ face_row l.host l.inst l.face l.base k laid) l.row-items) l.number)
