use Rattle.std.proofs.Common.{refl}
use Rattle.cg_session.specs.Turns.{Side, side}
use Rattle.cg_session.proofs.Turning.{stopped_before, told_behind}
use Rattle.cg_session.proofs.turn.change_and_tell.Goals as goal

-- the changes are done, and then the line is said
pub returns-in-Ok-clause-ends : goal.returns-in-Ok-clause-ends
returns-in-Ok-clause-ends g c =
    let before : Side = side (g.S.Store.content c.args.store.now) (g.S.Store.change_faults c.args.store.now) (g.O.Sink.held c.args.out.now) (g.O.Sink.faults c.args.out.now) in
    let after : Side = side (g.S.Store.content c.change.new.store) (g.S.Store.change_faults c.change.new.store) (g.O.Sink.held c.tell.new.out) (g.O.Sink.faults c.tell.new.out) in
    told_behind c.args.last.now c.args.new.now before after c.tell.result c.args.line.now c.requires c.in-Ok.ensures.ends c.tell.ensures.told

-- it stopped among the changes
pub returns-in-Err-clause-ends : goal.returns-in-Err-clause-ends
returns-in-Err-clause-ends g c =
    let before : Side = side (g.S.Store.content c.args.store.now) (g.S.Store.change_faults c.args.store.now) (g.O.Sink.held c.args.out.now) (g.O.Sink.faults c.args.out.now) in
    let after : Side = side (g.S.Store.content c.change.new.store) (g.S.Store.change_faults c.change.new.store) (g.O.Sink.held c.args.out.now) (g.O.Sink.faults c.args.out.now) in
    stopped_before c.args.last.now c.args.new.now before after c.in-Err.stop c.in-Err.ensures.ends refl
