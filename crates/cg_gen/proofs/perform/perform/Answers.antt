use Rattle.std.proofs.Common.{subst}
use Rattle.cg_deeds.specs.Outside.{Outlets, outlets}
use Rattle.cg_deeds.specs.Deeds.{StoppedAt, contents}
use Rattle.cg_deeds.proofs.Stopping.{stopped_at}
use Rattle.cg_gen.proofs.perform.perform.Goals as goal

-- an object failed at one of the deeds
pub returns-in-Err-Failed-clause-ends : goal.returns-in-Err-Failed-clause-ends
returns-in-Err-Failed-clause-ends g c =
    let before : Outlets = outlets (g.S.Store.content c.args.store.now) (g.S.Store.change_faults c.args.store.now) (g.O.Sink.held c.args.out.now) (g.O.Sink.faults c.args.out.now) (g.E.Sink.held c.args.err.now) (g.E.Sink.faults c.args.err.now) in
    let after : Outlets = outlets (g.S.Store.content c.do_all.new.store) (g.S.Store.change_faults c.do_all.new.store) (g.O.Sink.held c.do_all.new.out) (g.O.Sink.faults c.do_all.new.out) (g.E.Sink.held c.do_all.new.err) (g.E.Sink.faults c.do_all.new.err) in
    let ends = rw c.in-Err-Failed.field-0-is at c.in-Err-Failed.ensures.ends in
    (ends.0, subst (λ ds. StoppedAt ends.0 ds (contents before) (contents after)) c.as_slice.ensures (stopped_at ends.0 c.as_slice.result.now (contents before) (contents after) ends.1), ends.2)

-- or found no memory
pub returns-in-Err-Memory-clause-ends : goal.returns-in-Err-Memory-clause-ends
returns-in-Err-Memory-clause-ends g c =
    let before : Outlets = outlets (g.S.Store.content c.args.store.now) (g.S.Store.change_faults c.args.store.now) (g.O.Sink.held c.args.out.now) (g.O.Sink.faults c.args.out.now) (g.E.Sink.held c.args.err.now) (g.E.Sink.faults c.args.err.now) in
    let after : Outlets = outlets (g.S.Store.content c.do_all.new.store) (g.S.Store.change_faults c.do_all.new.store) (g.O.Sink.held c.do_all.new.out) (g.O.Sink.faults c.do_all.new.out) (g.E.Sink.held c.do_all.new.err) (g.E.Sink.faults c.do_all.new.err) in
    let ends = rw c.in-Err-Memory.field-0-is at c.in-Err-Memory.ensures.ends in
    (ends.0, subst (λ ds. StoppedAt ends.0 ds (contents before) (contents after)) c.as_slice.ensures (stopped_at ends.0 c.as_slice.result.now (contents before) (contents after) ends.1))
