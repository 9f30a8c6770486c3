use Rattle.std.proofs.Common.{ap, ◌∙◌}
use Rattle.cg_topread.proofs.KeyOrder.{shown}
use Rattle.cg_topread.proofs.Pairs.{no_face_yet, one_face}
use Rattle.cg_topread.proofs.described_instances.faces_bases.Goals as goal

pub loop-face-init : goal.loop-face-init
loop-face-init c = no_face_yet c.args.bases.now (shown c.in_ok-left.left.entries) c.new-faces.result c.new-faces.ensures c.in_ok-left.ensures

pub loop-face-preserved : goal.loop-face-preserved
loop-face-preserved c =
    one_face c.loop-face.faces c.in_ok-faces.faces c.in-Some.face.now c.in-Some.tree.now c.as_slice.result.now (shown c.loop-face.left.entries) (shown c.pop_first.new.self.entries) _
    (ap shown c.in-Some.ensures.removal) (c.as_slice.ensures ∙ c.in_ok-bases.ensures) c.in_ok-faces.ensures c.loop-face.invariant
