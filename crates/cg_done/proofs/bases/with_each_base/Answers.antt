use Rattle.std.proofs.Common.{ap, sym, ◌∙◌}
use Rattle.std.specs.Prelude.{codes, option_map}
use Rattle.cg_keys.specs.Table.{value_at}
use Rattle.cg_blkdone.proofs.Kept.{kept_at}
use Rattle.cg_done.proofs.bases.with_each_base.Goals as goal

pub full_bases-requires : goal.full_bases-requires
full_bases-requires c =
    kept_at c.args.tree.now (codes "base_addrs") c.in-Some.bases.now c.requires
    (ap (value_at (codes "base_addrs")) (sym c.members.ensures) ∙ sym c.value_at.ensures ∙ ap (option_map (λ t. t.now)) c.in-Some.is)
