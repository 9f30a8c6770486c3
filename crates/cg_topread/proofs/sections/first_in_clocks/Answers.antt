use Rattle.cg_topread.proofs.Firsts.{first_clock}
use Rattle.cg_topread.proofs.sections.first_in_clocks.Goals as goal

pub returns : goal.returns
returns c =
    first_clock c.args.tree.now _ c.members-clocks.result.now _ _ _ _ _ c.clocks_rows.ensures c.members-clocks.ensures
    c.first_in_object-keys.ensures c.first_in_names-sources.ensures c.first_in_names-derived.ensures c.earlier_of.ensures c.earlier_of-2.ensures
