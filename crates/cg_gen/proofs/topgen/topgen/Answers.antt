use Rattle.std.proofs.Common.{◌≡◌, ◌∷◌, ◌++◌, map, sym, ap, ◌∙◌}
use Rattle.cg_keep.specs.Kept.{Kept}
use Rattle.cg_keep.specs.declared.keep.Built.{Built}
use Rattle.cg_gen.specs.Gathering.{Shown, shown}
use Rattle.cg_gen.specs.Inner.{PlanEnds}
use Rattle.cg_gen.specs.Reads.{names_of}
use Rattle.cg_gen.proofs.Gathering.{passed_on}
use Rattle.cg_gen.proofs.TopPlan.{built_planned, refused_planned, top_named, top_stopped}
use Rattle.cg_gen.proofs.topgen.topgen.Goals as goal

-- a read was stopped
pub returns-in_err-names-clause-ends : goal.returns-in_err-names-clause-ends
returns-in_err-names-clause-ends g c words is =
    let before : Shown = shown (g.S.Store.content c.args.store.now) (g.S.Store.asked c.args.store.now) (g.S.Store.read_faults c.args.store.now) in
    let after : Shown = shown (g.S.Store.content c.read_top.new.store) (g.S.Store.asked c.read_top.new.store) (g.S.Store.read_faults c.read_top.new.store) in
    passed_on (λ r. PlanEnds r words before.files before.asked after.asked before.faults after.faults) c.from_residual-in_err-names.result c.in_err-names.field-0.0 c.from_residual-in_err-names.ensures.1
    (top_stopped c.args.file.now c.args.dir.now c.args.workers c.split_file.result.0.now c.split_file.result.1.now c.split_file.ensures words is before after c.in_ok-keep.keep c.read_top.new.keep
    (ap (λ (k : Kept). k.files) c.in_ok-keep.ensures) c.in_err-names.field-0.0 c.in_err-names.ensures.ends)

-- the first fault is told
pub returns-in-Err-Refused-clause-ends : goal.returns-in-Err-Refused-clause-ends
returns-in-Err-Refused-clause-ends g c words is =
    let before : Shown = shown (g.S.Store.content c.args.store.now) (g.S.Store.asked c.args.store.now) (g.S.Store.read_faults c.args.store.now) in
    let after : Shown = shown (g.S.Store.content c.read_top.new.store) (g.S.Store.asked c.read_top.new.store) (g.S.Store.read_faults c.read_top.new.store) in
    let nothing = ap (λ (k : Kept). k.files) c.in_ok-keep.ensures in
    let all = c.in_ok-names.ensures.ends in
    let refused = rw c.in-Err-Refused.field-0-is at c.in-Err-Refused.ensures.refreshes in
    let named : names_of (all.first ∷ all.more) ≡ map (λ name. c.split_file.result.0.now ++ name) c.as_slice.result.now =
    top_named c.args.file.now c.args.dir.now c.args.workers c.split_file.result.0.now c.split_file.result.1.now c.split_file.ensures words is before after c.in_ok-keep.keep c.read_top.new.keep nothing c.in_ok-names.names all
    ∙ ap (map (λ name. c.split_file.result.0.now ++ name)) (sym c.as_slice.ensures) in
    refused_planned c.args.file.now c.args.dir.now c.args.workers c.split_file.result.0.now c.split_file.result.1.now c.split_file.ensures words is before after c.in_ok-keep.keep c.read_top.new.keep nothing
    (ap (λ (k : Kept). k.top) c.in_ok-keep.ensures ∙ c.in_ok-of.ensures) c.in_ok-names.names c.in-Err-Refused.fault c.in_ok-refused_due-in-Err-Refused.field-0 all refused.2
    (c.in_ok-refused_due-in-Err-Refused.ensures (all.first ∷ all.more) named)

-- what was built is written
pub returns-in-Ok-clause-ends : goal.returns-in-Ok-clause-ends
returns-in-Ok-clause-ends g c words is =
    let before : Shown = shown (g.S.Store.content c.args.store.now) (g.S.Store.asked c.args.store.now) (g.S.Store.read_faults c.args.store.now) in
    let after : Shown = shown (g.S.Store.content c.read_top.new.store) (g.S.Store.asked c.read_top.new.store) (g.S.Store.read_faults c.read_top.new.store) in
    let left = c.in-Ok.ensures.refreshes.1 in
    let built : Built = left.0 in
    built_planned c.args.file.now c.args.dir.now c.args.workers c.split_file.result.0.now c.split_file.result.1.now c.split_file.ensures words is before after c.in_ok-keep.keep c.read_top.new.keep
    (ap (λ (k : Kept). k.files) c.in_ok-keep.ensures) c.a_build_is_one.ensures.unbroken (ap (λ (k : Kept). k.top) c.in_ok-keep.ensures ∙ c.in_ok-of.ensures) c.in_ok-names.names built.files
    c.in_ok-built_due-in-Ok.field-0 c.in_ok-names.ensures.ends left.2 (c.in_ok-built_due-in-Ok.ensures built left.1)
