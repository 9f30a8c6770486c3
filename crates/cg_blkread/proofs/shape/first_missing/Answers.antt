use Rattle.std.proofs.Common.{sym, ◌∙◌}
use Rattle.cg_finding.proofs.Loops.{no_more_viewed, one_more_viewed}
use Rattle.cg_blkread.proofs.NameSets.{missing_by}
use Rattle.cg_blkread.proofs.shape.first_missing.Goals as goal

pub loop-device-preserved : goal.loop-device-preserved
loop-device-preserved c =
    one_more_viewed (missing_by c.args.keys.now.keys c.args.opener) (λ t. t.now) c.args.device_faces.now c.loop-device.device-index c.device-item.result _ _ _ _
    c.loop-device-test.true c.device-item.is c.missing_list.ensures c.earlier_of-first.ensures
    ∙ c.loop-device.invariant

pub returns : goal.returns
returns c =
    sym (no_more_viewed (missing_by c.args.keys.now.keys c.args.opener) (λ t. t.now) c.args.device_faces.now c.loop-device.device-index _ c.loop-device-test.false)
    ∙ c.loop-device.invariant
