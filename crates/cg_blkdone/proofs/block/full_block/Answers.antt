use Rattle.std.proofs.Common.{ap, refl, ◌∙◌}
use Rattle.std.specs.Prelude.{codes}
use Rattle.serde_json.specs.Data.{boolean}
use Rattle.cg_keys.specs.Values.{members_of}
use Rattle.cg_blkread.specs.Raw.{is_true}
use Rattle.cg_blkdone.specs.Full.{block_pairs, full_block, with_all}
use Rattle.cg_blkdone.proofs.InTurn.{follow}
use Rattle.cg_blkdone.proofs.block.full_block.Goals as goal

pub returns : goal.returns
unfolding full_block block_pairs
returns c =
    let from = c.members-members.ensures in
    c.in_ok-value-11.ensures
    ∙ follow _ _ _ _ _ _ c.in_ok-value-10.ensures refl
    ∙ follow _ _ _ _ _ _ c.in_ok-value-9.ensures refl
    ∙ follow _ _ _ _ _ _ c.in_ok-value-8.ensures refl
    ∙ follow _ _ _ _ _ _ c.in_ok-value-7.ensures c.number.ensures
    ∙ follow _ _ _ _ _ _ c.in_ok-value-6.ensures refl
    ∙ follow _ _ _ _ _ _ c.in_ok-value-5.ensures (c.truth-no_alerts.ensures ∙ ap boolean (c.is_true-2.ensures ∙ ap (is_true (codes "no_auto_alert_regs")) from))
    ∙ follow _ _ _ _ _ _ c.in_ok-value-4.ensures (c.truth-no_interrupts.ensures ∙ ap boolean (c.is_true.ensures ∙ ap (is_true (codes "no_auto_intr_regs")) from))
    ∙ follow _ _ _ _ _ _ c.in_ok-value-3.ensures refl
    ∙ follow _ _ _ _ _ _ c.in_ok-value-2.ensures refl
    ∙ ap (with_all (block_pairs (members_of c.args.tree.now))) c.in_ok-value.ensures
