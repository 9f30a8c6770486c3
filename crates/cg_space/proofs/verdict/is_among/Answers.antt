use Rattle.std.proofs.Common.{refl, sym}
use Rattle.std.proofs.lemmas.Bool.{false≢true}
use Rattle.std.proofs.lemmas.Option.{slice_get-get_or}
use Rattle.cg_space.proofs.Judging.{none_is_all, none_is_more}
use Rattle.cg_space.proofs.Looking.{at_among}
use Rattle.cg_space.proofs.verdict.is_among.Goals as goal

pub returns-then-other-number : goal.returns-then-other-number
returns-then-other-number c =
    let at = slice_get-get_or c.args.numbers.now c.loop-other.other-index 0 c.loop-other-test.true in
    (λ h. rw (sym c.if-other-number.true) (at_among c.args.numbers.now c.loop-other.other-index _ at), λ h. refl)

pub loop-other-preserved : goal.loop-other-preserved
loop-other-preserved c =
    none_is_more c.args.numbers.now c.args.number c.loop-other.other-index _ (slice_get-get_or c.args.numbers.now c.loop-other.other-index 0 c.loop-other-test.true)
    c.if-other-number.false c.loop-other.invariant

pub returns : goal.returns
returns c = (
  λ h. absurd (false≢true h),
  λ among. absurd (none_is_all c.args.numbers.now c.args.number c.loop-other.other-index c.loop-other-test.false c.loop-other.invariant among),
)
