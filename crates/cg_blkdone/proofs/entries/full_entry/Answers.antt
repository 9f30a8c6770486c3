use Rattle.std.proofs.Common.{ap, sym, ◌∙◌}
use Rattle.std.specs.Prelude.{codes, option_map}
use Rattle.cg_keys.specs.Table.{value_at}
use Rattle.cg_blkdone.proofs.Kept.{kept_at}
use Rattle.cg_blkdone.proofs.entries.full_entry.Goals as goal

pub full_multireg-requires : goal.full_multireg-requires
full_multireg-requires c =
    kept_at c.args.tree.now (codes "multireg") c.in-Some.multireg.now c.requires
    (ap (value_at (codes "multireg")) (sym c.members-members.ensures) ∙ sym c.value_at.ensures ∙ ap (option_map (λ t. t.now)) c.in-Some.is)

pub full_window-requires : goal.full_window-requires
full_window-requires c =
    kept_at c.args.tree.now (codes "window") c.in-Some-value_at.window.now c.requires
    (ap (value_at (codes "window")) (sym c.members-members.ensures) ∙ sym c.value_at-2.ensures ∙ ap (option_map (λ t. t.now)) c.in-Some-value_at.is)
