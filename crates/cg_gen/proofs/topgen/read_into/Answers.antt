use Rattle.std.proofs.Common.{◌≡◌, [], ◌∷◌, ◌++◌, ap, subst, ◌∙◌}
use Rattle.cg_base.specs.Outside.{also_asked}
use Rattle.cg_gen.specs.Gathering.{GatherEnds, Shown, shown}
use Rattle.cg_gen.specs.Reads.{Gave, read}
use Rattle.cg_gen.proofs.Gathering.{one_read, one_stopped, passed_on}
use Rattle.cg_gen.proofs.topgen.read_into.Goals as goal

-- the read was stopped
pub returns-in_err-given-clause-ends : goal.returns-in_err-given-clause-ends
returns-in_err-given-clause-ends g c =
    let before : Shown = shown (g.S.Store.content c.args.store.now) (g.S.Store.asked c.args.store.now) (g.S.Store.read_faults c.args.store.now) in
    let after : Shown = shown (g.S.Store.content c.read_file.new.store) (g.S.Store.asked c.read_file.new.store) (g.S.Store.read_faults c.read_file.new.store) in
    let named : c.as_str.result.now ≡ c.args.folder.now ++ c.args.name.now = c.as_str.ensures ∙ c.in_ok-file.ensures in
    passed_on (λ r. GatherEnds r c.args.folder.now (c.args.name.now ∷ []) before after c.args.keep.now c.args.keep.now) c.from_residual-in_err-given.result c.in_err-given.field-0.0
    c.from_residual-in_err-given.ensures.1
    (one_stopped c.args.folder.now c.args.name.now before after c.args.keep.now c.args.keep.now (c.read_file.ensures.asked ∙ ap (λ n. also_asked before.asked (n ∷ [])) named) c.in_err-given.field-0.0 c.in_err-given.ensures.rose)

-- the file was read, and put
pub returns-clause-ends : goal.returns-clause-ends
returns-clause-ends g c =
    let before : Shown = shown (g.S.Store.content c.args.store.now) (g.S.Store.asked c.args.store.now) (g.S.Store.read_faults c.args.store.now) in
    let after : Shown = shown (g.S.Store.content c.read_file.new.store) (g.S.Store.asked c.read_file.new.store) (g.S.Store.read_faults c.read_file.new.store) in
    let named : c.as_str.result.now ≡ c.args.folder.now ++ c.args.name.now = c.as_str.ensures ∙ c.in_ok-file.ensures in
    let held = c.in_ok-given.ensures.gave in
    one_read c.args.folder.now c.args.name.now before after c.args.keep.now c.put_given.new.keep (c.read_file.ensures.asked ∙ ap (λ n. also_asked before.asked (n ∷ [])) named)
    held.0 (subst (λ n. Gave before.files (read n held.0)) named held.2) c.read_file.ensures.same c.read_file.ensures.later (c.in_ok-put_given.ensures held.0 held.1)
