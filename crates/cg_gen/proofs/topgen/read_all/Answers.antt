use Rattle.std.proofs.Common.{◌≡◌, Some, length, slice_get, refl, sym, ap, ◌∙◌}
use Rattle.std.proofs.lemmas.Option.{slice_get_read}
use Rattle.cg_gen.specs.Gathering.{GatherEnds, Shown, shown}
use Rattle.cg_gen.proofs.Gathering.{gathered_next, next_stopped, passed_on}
use Rattle.cg_gen.proofs.topgen.read_all.Goals as goal

-- the next read was stopped
pub returns-in_err-read_into-clause-ends : goal.returns-in_err-read_into-clause-ends
returns-in_err-read_into-clause-ends g c =
    let start : Shown = shown (g.S.Store.content c.args.store.now) (g.S.Store.asked c.args.store.now) (g.S.Store.read_faults c.args.store.now) in
    let before : Shown = shown (g.S.Store.content c.loop-name.store) (g.S.Store.asked c.loop-name.store) (g.S.Store.read_faults c.loop-name.store) in
    let after : Shown = shown (g.S.Store.content c.read_into.new.store) (g.S.Store.asked c.read_into.new.store) (g.S.Store.read_faults c.read_into.new.store) in
    let at : slice_get c.args.names.now c.loop-name.name-index ≡ Some c.as_str.result.now =
    slice_get_read c.args.names.now (length c.args.names.now) c.loop-name.name-index c.name-item.result refl c.loop-name-test.true c.name-item.is ∙ ap Some (sym c.as_str.ensures) in
    passed_on (λ r. GatherEnds r c.args.folder.now c.args.names.now start after c.args.keep.now c.read_into.new.keep) c.from_residual.result c.in_err-read_into.field-0.0 c.from_residual.ensures.1
    (next_stopped c.in_err-read_into.field-0.0 c.args.folder.now c.args.names.now start before after c.args.keep.now c.loop-name.keep c.read_into.new.keep c.loop-name.name-index c.as_str.result.now c.loop-name.invariant.gathered at
    c.in_err-read_into.ensures.ends)

-- the next file was read
pub loop-name-preserved : goal.loop-name-preserved
loop-name-preserved g c =
    let start : Shown = shown (g.S.Store.content c.args.store.now) (g.S.Store.asked c.args.store.now) (g.S.Store.read_faults c.args.store.now) in
    let before : Shown = shown (g.S.Store.content c.loop-name.store) (g.S.Store.asked c.loop-name.store) (g.S.Store.read_faults c.loop-name.store) in
    let after : Shown = shown (g.S.Store.content c.read_into.new.store) (g.S.Store.asked c.read_into.new.store) (g.S.Store.read_faults c.read_into.new.store) in
    let at : slice_get c.args.names.now c.loop-name.name-index ≡ Some c.as_str.result.now =
    slice_get_read c.args.names.now (length c.args.names.now) c.loop-name.name-index c.name-item.result refl c.loop-name-test.true c.name-item.is ∙ ap Some (sym c.as_str.ensures) in
    record {
      gathered = gathered_next c.args.folder.now c.args.names.now start before after c.args.keep.now c.loop-name.keep c.read_into.new.keep c.loop-name.name-index c.as_str.result.now c.loop-name.invariant.gathered at
          c.in_ok-read_into.ensures.ends;
      same = c.read_into.ensures.same ∙ c.loop-name.invariant.same;
      changes = c.read_into.ensures.changes ∙ c.loop-name.invariant.changes;
    }
