use Rattle.std.proofs.Common.{◌≡◌}
use Rattle.cg_session.specs.Turns.{side, kept_in, SamePlace}
use Rattle.cg_session.specs.Steps.{inlet, Played}
use Rattle.cg_session.proofs.step.do_all.Given as goal

-- the commands so far are played
abbrev pub invariant-commands : goal.invariant-commands
invariant-commands g l = record {
  played : Played l.fn.session.keep.top l.fn.session.dir (kept_in l.fn.session) (kept_in l.session) l.number
      (inlet (g.I.Source.left l.fn.input) (g.I.Source.faults l.fn.input) l.fn.room) (inlet (g.I.Source.left l.input) (g.I.Source.faults l.input) l.room)
      (side (g.S.Store.content l.fn.store) (g.S.Store.change_faults l.fn.store) (g.O.Sink.held l.fn.out) (g.O.Sink.faults l.fn.out))
      (side (g.S.Store.content l.store) (g.S.Store.change_faults l.store) (g.O.Sink.held l.out) (g.O.Sink.faults l.out));
  same : SamePlace l.fn.session l.session;
  asked : g.S.Store.asked l.store ≡ g.S.Store.asked l.fn.store;
  reads : g.S.Store.read_faults l.store ≡ g.S.Store.read_faults l.fn.store;
  steps : l.steps ≡ l.fn.steps;
}

abbrev pub decreases-commands : goal.decreases-commands
decreases-commands g l = l.room
