use Rattle.std.proofs.Common.{ap, sym, ◌∙◌}
use Rattle.std.specs.Prelude.{option_map}
use Rattle.cg_keys.specs.Table.{value_at}
use Rattle.cg_blkdone.proofs.Kept.{kept_at}
use Rattle.cg_done.proofs.sections.with_section.Goals as goal

pub full_section-requires : goal.full_section-requires
full_section-requires c =
    kept_at c.args.tree.now c.args.key.now c.in-Some.part.now c.requires
    (ap (value_at c.args.key.now) (sym c.members.ensures) ∙ sym c.value_at.ensures ∙ ap (option_map (λ t. t.now)) c.in-Some.is)
