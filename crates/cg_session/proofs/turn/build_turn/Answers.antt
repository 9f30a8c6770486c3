use Rattle.std.proofs.Common.{ap, subst}
use Rattle.cg_session.specs.Play.{keeping}
use Rattle.cg_session.specs.Turns.{IsHeld, kept_in}
use Rattle.cg_session.proofs.Turning.{turned_from}
use Rattle.cg_session.proofs.turn.build_turn.Goals as goal

pub returns-in-Ok-clause-ends : goal.returns-in-Ok-clause-ends
returns-in-Ok-clause-ends g c =
    let a = c.in-Ok.ensures.answer in
    let s = c.args.session.now in
    turned_from c.answer_turn.result s.keep.top s.dir (kept_in s) (keeping c.build-answer.new.keep.files s.good s.refused) (kept_in c.answer_turn.new.session) c.in-Ok.answer a.0 _ _
    (ap (λ f. keeping f s.good s.refused) c.in-Ok.ensures.files) a.1 (subst (λ d. IsHeld d c.in-Ok.answer a.0) c.as_str.ensures a.2) c.answer_turn.ensures.ends c.answer_turn.ensures.kept
