use Rattle.std.proofs.Common.{refl, sym, subst, ◌∙◌}
use Rattle.cg_session.specs.Steps.{Inlet, Played, inlet}
use Rattle.cg_session.specs.Turns.{Side, side, kept_in}
use Rattle.cg_session.specs.declared.step.Step.TheVariants as step
use Rattle.cg_session.proofs.Playing.{played_next, played_none, step_in_place, still_in_place}
use Rattle.cg_session.proofs.step.do_all.Goals as goal

-- at first no command is played
pub commands-init : goal.commands-init
commands-init g c =
    let i : Inlet = inlet (g.I.Source.left c.args.input.now) (g.I.Source.faults c.args.input.now) c.args.room.now in
    let b : Side = side (g.S.Store.content c.args.store.now) (g.S.Store.change_faults c.args.store.now) (g.O.Sink.held c.args.out.now) (g.O.Sink.faults c.args.out.now) in
    record {
      played = subst (λ n. Played c.args.session.now.keep.top c.args.session.now.dir (kept_in c.args.session.now) (kept_in c.args.session.now) n i i b b) (sym c.requires.first)
          (played_none c.args.session.now.keep.top c.args.session.now.dir (kept_in c.args.session.now) i b);
      same = record { top = refl; dir = refl };
      asked = refl;
      reads = refl;
      steps = refl;
    }

-- then one more
pub commands-preserved : goal.commands-preserved
commands-preserved g c =
    let i : Inlet = inlet (g.I.Source.left c.args.input.now) (g.I.Source.faults c.args.input.now) c.args.room.now in
    let i1 : Inlet = inlet (g.I.Source.left c.commands.input) (g.I.Source.faults c.commands.input) c.commands.room in
    let i2 : Inlet = inlet (g.I.Source.left c.do_next.new.input) (g.I.Source.faults c.do_next.new.input) c.do_next.new.room in
    let b : Side = side (g.S.Store.content c.args.store.now) (g.S.Store.change_faults c.args.store.now) (g.O.Sink.held c.args.out.now) (g.O.Sink.faults c.args.out.now) in
    let b1 : Side = side (g.S.Store.content c.commands.store) (g.S.Store.change_faults c.commands.store) (g.O.Sink.held c.commands.out) (g.O.Sink.faults c.commands.out) in
    let b2 : Side = side (g.S.Store.content c.do_next.new.store) (g.S.Store.change_faults c.do_next.new.store) (g.O.Sink.held c.do_next.new.out) (g.O.Sink.faults c.do_next.new.out) in
    record {
      played = played_next c.args.session.now.keep.top c.args.session.now.dir (kept_in c.args.session.now) (kept_in c.commands.session) (kept_in c.do_next.new.session) c.commands.number
          i i1 i2 b b1 b2 c.commands.invariant.played
          (step_in_place step.Next c.args.session.now c.commands.session (kept_in c.commands.session) (kept_in c.do_next.new.session) i1 i2 b1 b2 c.commands.invariant.same c.in-Next.ensures.ends);
      same = still_in_place c.args.session.now c.commands.session c.do_next.new.session c.commands.invariant.same c.do_next.ensures.same;
      asked = c.do_next.ensures.asked ∙ c.commands.invariant.asked;
      reads = c.do_next.ensures.reads ∙ c.commands.invariant.reads;
      steps = c.do_next.ensures.steps ∙ c.commands.invariant.steps;
    }

-- up to one that does not go on
pub returns-in_default : goal.returns-in_default
returns-in_default g c =
    let i : Inlet = inlet (g.I.Source.left c.args.input.now) (g.I.Source.faults c.args.input.now) c.args.room.now in
    let i1 : Inlet = inlet (g.I.Source.left c.commands.input) (g.I.Source.faults c.commands.input) c.commands.room in
    let i2 : Inlet = inlet (g.I.Source.left c.do_next.new.input) (g.I.Source.faults c.do_next.new.input) c.do_next.new.room in
    let b1 : Side = side (g.S.Store.content c.commands.store) (g.S.Store.change_faults c.commands.store) (g.O.Sink.held c.commands.out) (g.O.Sink.faults c.commands.out) in
    let b2 : Side = side (g.S.Store.content c.do_next.new.store) (g.S.Store.change_faults c.do_next.new.store) (g.O.Sink.held c.do_next.new.out) (g.O.Sink.faults c.do_next.new.out) in
    record {
      ends = record {
        kept = kept_in c.commands.session;
        inlet_then = i1;
        side_then = b1;
        played = c.commands.invariant.played;
        ends = step_in_place c.do_next.result c.args.session.now c.commands.session (kept_in c.commands.session) (kept_in c.do_next.new.session) i1 i2 b1 b2 c.commands.invariant.same
            c.do_next.ensures.ends;
      };
      stops = c.in_default.not-Next;
      asked = c.do_next.ensures.asked ∙ c.commands.invariant.asked;
      reads = c.do_next.ensures.reads ∙ c.commands.invariant.reads;
      steps = c.do_next.ensures.steps ∙ c.commands.invariant.steps;
    }
