use Rattle.std.proofs.Common.{◌∙◌, sym, ap, [], ◌∷◌}
use Rattle.serde_json.specs.View.{view}
use Rattle.cg_blkdone.specs.Full.{pair, with_all}
use Rattle.cg_blkdone.proofs.InTurn.{with_nothing}
use Rattle.cg_blkdone.proofs.Kept.{kept_in_values}
use Rattle.cg_blkdone.proofs.Loops.{one_more_value, values_done}
use Rattle.cg_done.specs.FullTop.{full_base}
use Rattle.cg_done.proofs.bases.with_bases.Goals as goal

pub full_base-requires : goal.full_base-requires
full_base-requires c = kept_in_values c.args.members.now c.loop-member.member-index c.member-item.result c.loop-member-test.true c.member-item.is c.requires

pub loop-member-preserved : goal.loop-member-preserved
loop-member-preserved c =
    one_more_value full_base c.args.members.now c.loop-member.member-index c.member-item.result (view c.loop-member.whole) _ _ _
    c.loop-member-test.true c.member-item.is
    (c.in_ok-whole.ensures ∙ ap (λ k. with_all (pair k (view c.in_ok-base.base) ∷ []) (view c.loop-member.whole)) c.as_str.ensures) c.in_ok-base.ensures c.loop-member.invariant

pub returns : goal.returns
returns c =
    sym (with_nothing (view c.loop-member.whole))
    ∙ values_done full_base c.args.members.now c.loop-member.member-index (view c.loop-member.whole) _ c.loop-member-test.false c.loop-member.invariant
