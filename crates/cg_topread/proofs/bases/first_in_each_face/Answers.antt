use Rattle.std.proofs.Common.{sym, ◌∙◌}
use Rattle.cg_finding.proofs.Loops.{no_more_viewed, one_more_viewed}
use Rattle.cg_topread.specs.Listed.{face_faults}
use Rattle.cg_topread.proofs.bases.first_in_each_face.Goals as goal

pub loop-face-preserved : goal.loop-face-preserved
loop-face-preserved c =
    one_more_viewed face_faults (λ m. m.now) c.args.faces.now c.loop-face.face-index c.face-item.result _ _ _ _
    c.loop-face-test.true c.face-item.is c.in_ok-first_in_face.ensures c.earlier_of-first.ensures
    ∙ c.loop-face.invariant

pub returns : goal.returns
returns c =
    sym (no_more_viewed face_faults (λ m. m.now) c.args.faces.now c.loop-face.face-index _ c.loop-face-test.false)
    ∙ c.loop-face.invariant
