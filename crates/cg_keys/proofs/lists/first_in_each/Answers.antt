use Rattle.std.proofs.Common.{map, sym, ◌∙◌}
use Rattle.cg_finding.proofs.Loops.{no_more, one_more}
use Rattle.cg_keys.specs.Elements.{object_faults}
use Rattle.cg_keys.specs.Table.{key_of}
use Rattle.cg_keys.proofs.lists.first_in_each.Goals as goal

pub loop-item-preserved : goal.loop-item-preserved
loop-item-preserved c =
    one_more (object_faults (map key_of c.args.rows.now)) c.args.items.now c.loop-item.item-index c.item-item.result _ _ _ _
    c.loop-item-test.true c.item-item.is c.first_in_object.ensures c.earlier_of-first.ensures
    ∙ c.loop-item.invariant

pub returns : goal.returns
returns c =
    sym (no_more (object_faults (map key_of c.args.rows.now)) c.args.items.now c.loop-item.item-index _ c.loop-item-test.false)
    ∙ c.loop-item.invariant
