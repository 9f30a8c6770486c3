use Rattle.cg_gen.specs.Gathering.{Shown, TopEnds, shown}
use Rattle.cg_gen.proofs.Gathering.{passed_on}
use Rattle.cg_gen.proofs.TopPlan.{all_gathered, some_stopped}
use Rattle.cg_gen.proofs.topgen.read_top.Goals as goal

-- the read of a file that the top names was stopped
pub returns-in_err-read_all-clause-ends : goal.returns-in_err-read_all-clause-ends
returns-in_err-read_all-clause-ends g c =
    let before : Shown = shown (g.S.Store.content c.args.store.now) (g.S.Store.asked c.args.store.now) (g.S.Store.read_faults c.args.store.now) in
    let between : Shown = shown (g.S.Store.content c.read_into.new.store) (g.S.Store.asked c.read_into.new.store) (g.S.Store.read_faults c.read_into.new.store) in
    let after : Shown = shown (g.S.Store.content c.read_all.new.store) (g.S.Store.asked c.read_all.new.store) (g.S.Store.read_faults c.read_all.new.store) in
    passed_on (λ r. TopEnds r c.args.folder.now c.args.own.now before after c.args.keep.now c.read_all.new.keep) c.from_residual-in_err-read_all.result c.in_err-read_all.field-0.0
    c.from_residual-in_err-read_all.ensures.1
    (some_stopped c.args.folder.now c.args.own.now before between after c.args.keep.now c.read_into.new.keep c.read_all.new.keep c.requires c.in_ok-read_into.ensures.ends c.in_ok-names.names c.as_slice.result.now c.in_ok-names.ensures
    c.as_slice.ensures c.in_err-read_all.field-0.0 c.in_err-read_all.ensures.ends)

-- all were read
pub returns-clause-ends : goal.returns-clause-ends
returns-clause-ends g c =
    let before : Shown = shown (g.S.Store.content c.args.store.now) (g.S.Store.asked c.args.store.now) (g.S.Store.read_faults c.args.store.now) in
    let between : Shown = shown (g.S.Store.content c.read_into.new.store) (g.S.Store.asked c.read_into.new.store) (g.S.Store.read_faults c.read_into.new.store) in
    let after : Shown = shown (g.S.Store.content c.read_all.new.store) (g.S.Store.asked c.read_all.new.store) (g.S.Store.read_faults c.read_all.new.store) in
    all_gathered c.args.folder.now c.args.own.now before between after c.args.keep.now c.read_into.new.keep c.read_all.new.keep c.requires c.in_ok-read_into.ensures.ends c.in_ok-names.names c.as_slice.result.now c.in_ok-names.ensures
    c.as_slice.ensures c.in_ok-read_all.ensures.ends
