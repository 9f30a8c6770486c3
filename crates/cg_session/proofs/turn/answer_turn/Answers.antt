use Rattle.std.proofs.Common.{Err, refl}
use Rattle.cg_session.specs.Turns.{Side, side}
use Rattle.cg_session.proofs.Turning.{said}
use Rattle.cg_session.proofs.turn.answer_turn.Goals as goal

-- the line of a refused build was not said
pub returns-in-Refused-clause-ends : goal.returns-in-Refused-clause-ends
returns-in-Refused-clause-ends g c =
    let before : Side = side (g.S.Store.content c.args.store.now) (g.S.Store.change_faults c.args.store.now) (g.O.Sink.held c.args.out.now) (g.O.Sink.faults c.args.out.now) in
    let after : Side = side (g.S.Store.content c.args.store.now) (g.S.Store.change_faults c.args.store.now) (g.O.Sink.held c.tell.new.out) (g.O.Sink.faults c.tell.new.out) in
    rw c.in-Refused.is (said (Err c.in-Err.stop) c.in-Refused.line before after refl c.in-Err.ensures.told)
