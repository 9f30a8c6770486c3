use Rattle.std.proofs.Common.{ap, sym, ◌∙◌}
use Rattle.std.specs.Prelude.{codes, unwrap_or}
use Rattle.serde_json.specs.Data.{string}
use Rattle.serde_json.specs.View.{view}
use Rattle.cg_keys.specs.Lookups.{text_at}
use Rattle.cg_keys.specs.Table.{value_at}
use Rattle.cg_keys.specs.Values.{members_of}
use Rattle.cg_topread.specs.Described.{hart}
use Rattle.cg_blkdone.specs.Full.{with_all}
use Rattle.cg_blkdone.proofs.InTurn.{follow, with_nothing}
use Rattle.cg_done.specs.FullTop.{full_use, use_pairs, value_or}
use Rattle.cg_done.proofs.lists.full_use.Goals as goal

pub returns : goal.returns
unfolding full_use use_pairs
returns c =
    let ms = members_of c.args.tree.now in
    sym (with_nothing (view c.in_ok-value-3.value))
    ∙ follow _ _ _ _ _ _ c.in_ok-value-3.ensures (c.in_ok-sources.ensures ∙ ap (λ d. value_or d (value_at (codes "clock_srcs") ms)) c.no_ports.ensures)
    ∙ follow _ _ _ _ _ _ c.in_ok-value-2.ensures
    (c.in_ok-text.ensures ∙ ap string (c.space_of-space.ensures ∙ ap (λ l. unwrap_or (text_at (codes "addr_space") l) hart) c.members.ensures))
    ∙ ap (with_all (use_pairs ms)) c.in_ok-value.ensures
