use Rattle.cg_session.specs.Steps.{inlet}
use Rattle.cg_session.specs.Turns.{side, kept_in}
use Rattle.cg_session.proofs.Stepping.{step_build}
use Rattle.cg_session.proofs.step.do_next.Goals as goal

-- a build ends as its deeds do
pub returns-in-Ok-Build-clause-ends : goal.returns-in-Ok-Build-clause-ends
returns-in-Ok-Build-clause-ends g c =
    step_build c.build_turn.result c.after_build.result c.args.session.now.keep.top c.args.session.now.dir (kept_in c.args.session.now) (kept_in c.build_turn.new.session)
    (inlet (g.I.Source.left c.args.input.now) (g.I.Source.faults c.args.input.now) c.args.room.now)
    (inlet (g.I.Source.left c.next_command.new.input) (g.I.Source.faults c.next_command.new.input) c.next_command.new.room)
    (side (g.S.Store.content c.args.store.now) (g.S.Store.change_faults c.args.store.now) (g.O.Sink.held c.args.out.now) (g.O.Sink.faults c.args.out.now))
    (side (g.S.Store.content c.build_turn.new.store) (g.S.Store.change_faults c.build_turn.new.store) (g.O.Sink.held c.build_turn.new.out) (g.O.Sink.faults c.build_turn.new.out))
    c.after_build.ensures (rw c.in-Ok-Build.field-0-is at c.in-Ok-Build.ensures) c.build_turn.ensures.ends c.build_turn.ensures.later
