use Rattle.std.proofs.Common.{refl}
use Rattle.std.proofs.lemmas.Bool.{false≢true}
use Rattle.std.proofs.lemmas.Option.{slice_get-get_or}
use Rattle.cg_space.proofs.Judging.{none_meets_all, none_meets_more}
use Rattle.cg_space.proofs.Looking.{at_among}
use Rattle.cg_space.proofs.verdict.meets_earlier.Goals as goal

pub returns-then-is_met : goal.returns-then-is_met
returns-then-is_met c =
    let met = c.if-is_met.ensures.0 refl in
    let at = slice_get-get_or c.args.to.now c.loop-earlier.earlier-index 0 c.loop-earlier-test.true in
    (λ h. (_, at_among c.args.to.now c.loop-earlier.earlier-index _ at, met.0, met.1), λ h. refl)

pub loop-earlier-preserved : goal.loop-earlier-preserved
loop-earlier-preserved c =
    none_meets_more c.args.top.now c.args.xbar c.args.node c.loop-earlier.earlier-index c.args.to.now _
    (slice_get-get_or c.args.to.now c.loop-earlier.earlier-index 0 c.loop-earlier-test.true) (λ met. false≢true (c.if-is_met.ensures.1 met)) c.loop-earlier.invariant

pub returns : goal.returns
returns c = (
  λ h. absurd (false≢true h),
  λ meets. absurd (none_meets_all c.args.top.now c.args.xbar c.args.node c.loop-earlier.earlier-index c.args.to.now c.loop-earlier-test.false c.loop-earlier.invariant meets),
)
