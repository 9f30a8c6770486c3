use Rattle.std.proofs.Common.{◌∙◌, sym, ap, [], ◌∷◌}
use Rattle.serde_json.specs.View.{view}
use Rattle.cg_blkdone.specs.Full.{pair, with_all}
use Rattle.cg_blkdone.proofs.InTurn.{with_nothing}
use Rattle.cg_blkdone.proofs.Loops.{one_more_value, values_done}
use Rattle.cg_done.specs.Parts.{plain_base}
use Rattle.cg_done.proofs.bases.with_numbers.Goals as goal

pub loop-member-preserved : goal.loop-member-preserved
loop-member-preserved c =
    one_more_value plain_base c.args.members.now c.loop-member.member-index c.member-item.result (view c.loop-member.whole) _ _ _
    c.loop-member-test.true c.member-item.is
    (c.in_ok-whole.ensures ∙ ap (λ k. with_all (pair k (view c.plain_base-number.result) ∷ []) (view c.loop-member.whole)) c.as_str.ensures)
    c.plain_base-number.ensures c.loop-member.invariant

pub returns : goal.returns
returns c =
    sym (with_nothing (view c.loop-member.whole))
    ∙ values_done plain_base c.args.members.now c.loop-member.member-index (view c.loop-member.whole) _ c.loop-member-test.false c.loop-member.invariant
