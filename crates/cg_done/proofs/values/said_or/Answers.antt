use Rattle.std.proofs.Common.{ap, sym, ◌∙◌}
use Rattle.std.specs.Prelude.{option_map}
use Rattle.cg_keys.specs.Table.{value_at}
use Rattle.cg_blkdone.specs.Parts.{IsKept}
use Rattle.cg_blkdone.proofs.Kept.{kept_at}
use Rattle.cg_done.proofs.values.said_or.Goals as goal

pub to_json-requires-clause-integers : goal.to_json-requires-clause-integers
to_json-requires-clause-integers c =
    let kept : IsKept c.in-Some.value.now = kept_at c.args.tree.now c.args.key.now c.in-Some.value.now c.requires
    (ap (value_at c.args.key.now) (sym c.members.ensures) ∙ sym c.value_at.ensures ∙ ap (option_map (λ t. t.now)) c.in-Some.is) in
    kept.integers
