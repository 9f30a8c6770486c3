use Rattle.std.proofs.Common.{sym, ◌∙◌}
use Rattle.cg_finding.proofs.Loops.{no_more, one_more}
use Rattle.cg_expand.specs.Parts.Faults.{face_faults}
use Rattle.cg_expand.proofs.late.first_in_faces.Goals as goal

pub loop-face-preserved : goal.loop-face-preserved
loop-face-preserved c =
    one_more face_faults c.args.faces.now c.loop-face.face-index c.face-item.result _ _ _ _
    c.loop-face-test.true c.face-item.is c.in_ok-first_in_face.ensures c.earlier_of-first.ensures
    ∙ c.loop-face.invariant

pub returns : goal.returns
returns c = sym (no_more face_faults c.args.faces.now c.loop-face.face-index _ c.loop-face-test.false) ∙ c.loop-face.invariant
