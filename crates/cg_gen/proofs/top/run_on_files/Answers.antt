use Rattle.std.proofs.Common.{◌∙◌, subst}
use Rattle.cg_deeds.specs.Outside.{Outlets, outlets}
use Rattle.cg_gen.specs.Inner.{PerformEnds}
use Rattle.cg_gen.proofs.Endings.{performed}
use Rattle.cg_gen.proofs.top.run_on_files.Goals as goal

-- what was due was done, or one of its deeds was not
pub returns-in-Ok-clause-ends : goal.returns-in-Ok-clause-ends
returns-in-Ok-clause-ends g c words reads =
    let found = c.in-Ok.ensures.ends words reads in
    let after : Outlets =
    outlets (g.S.Store.content c.perform.new.store) (g.S.Store.change_faults c.perform.new.store) (g.O.Sink.held c.perform.new.out) (g.O.Sink.faults c.perform.new.out)
    (g.E.Sink.held c.perform.new.err) (g.E.Sink.faults c.perform.new.err) in
    performed c.perform.result words _ _ found.0 c.in-Ok.due (record { gave = found.1.gave; asked_for = c.perform.ensures.asked ∙ found.1.asked_for; is_due = found.1.is_due })
    (subst (λ (before : Outlets). PerformEnds c.perform.result c.in-Ok.due before after)
    (λ i. outlets (c.plan.ensures.same i) (c.plan.ensures.changes i) (g.O.Sink.held c.args.out.now) (g.O.Sink.faults c.args.out.now) (g.E.Sink.held c.args.err.now) (g.E.Sink.faults c.args.err.now))
    c.perform.ensures.ends)

-- a read failed, and nothing was changed
pub returns-in-Err-Failed-clause-ends : goal.returns-in-Err-Failed-clause-ends
returns-in-Err-Failed-clause-ends g c words reads = record {
  fails = (rw c.in-Err-Failed.field-0-is at c.in-Err-Failed.ensures.ends) words reads;
  same = λ i. record { files = c.plan.ensures.same i; out = g.O.Sink.held c.args.out.now; err = g.E.Sink.held c.args.err.now };
}
