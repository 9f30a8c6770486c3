use Rattle.std.proofs.Common.{ap, sym, ◌∙◌}
use Rattle.std.specs.Prelude.{codes, option_map}
use Rattle.cg_keys.specs.Table.{value_at}
use Rattle.cg_blkdone.proofs.Kept.{kept_at}
use Rattle.cg_blkdone.proofs.lists.with_registers.Goals as goal

pub lists_in-requires : goal.lists_in-requires
lists_in-requires c =
    kept_at c.args.tree.now (codes "registers") c.in-Some.registers.now c.requires
    (ap (value_at (codes "registers")) (sym c.members.ensures) ∙ sym c.value_at.ensures ∙ ap (option_map (λ t. t.now)) c.in-Some.is)
