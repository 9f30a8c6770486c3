use Rattle.std.proofs.Common.{ap, sym, ◌∙◌}
use Rattle.std.specs.Prelude.{codes, option_map}
use Rattle.cg_keys.specs.Table.{value_at}
use Rattle.cg_blkdone.proofs.Kept.{kept_at}
use Rattle.cg_done.proofs.bases.with_base.Goals as goal

pub full_base-requires : goal.full_base-requires
full_base-requires c =
    kept_at c.args.tree.now (codes "base_addr") c.in-Some.base.now c.requires
    (ap (value_at (codes "base_addr")) (sym c.members.ensures) ∙ sym c.value_at.ensures ∙ ap (option_map (λ t. t.now)) c.in-Some.is)
