use Rattle.std.proofs.Common.{sym, ap, map, ◌∙◌}
use Rattle.cg_topread.proofs.TypesOnce.{from_none, last_kind, next_kind}
use Rattle.cg_topread.proofs.types.listed_types.Goals as goal

pub loop-inst-init : goal.loop-inst-init
loop-inst-init c = from_none c.args.insts.now _ c.new-used.ensures.empty

pub loop-inst-preserved : goal.loop-inst-preserved
loop-inst-preserved c =
    next_kind c.loop-inst.used.keys c.insert.new.self.keys c.as_str.result c.args.insts.now c.loop-inst.inst-index
    c.inst-item.result _ _ c.loop-inst-test.true c.inst-item.is c.as_str.ensures c.in_ok-insert.ensures.keys c.loop-inst.invariant

pub returns : goal.returns
returns c =
    c.in_ok-texts_of.ensures ∙ ap (map (λ n. n.now)) c.as_slice.ensures.keys
    ∙ sym (last_kind c.loop-inst.used.keys c.args.insts.now c.loop-inst.inst-index c.loop-inst-test.false) ∙ c.loop-inst.invariant
