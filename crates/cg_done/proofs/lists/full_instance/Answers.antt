use Rattle.std.proofs.Common.{ap, sym, ◌∙◌}
use Rattle.std.specs.Prelude.{codes, option_map}
use Rattle.serde_json.specs.View.{view}
use Rattle.cg_keys.specs.Table.{value_at}
use Rattle.cg_keys.specs.Values.{members_of}
use Rattle.cg_blkdone.specs.Full.{pair_if, with_all}
use Rattle.cg_blkdone.proofs.InTurn.{follow, with_append}
use Rattle.cg_done.specs.FullTop.{full_base, full_bases, full_instance, instance_pairs, value_or}
use Rattle.cg_done.proofs.lists.full_instance.Goals as goal

pub returns : goal.returns
unfolding full_instance instance_pairs
returns c =
    let ms = members_of c.args.tree.now in
    let base = pair_if (codes "base_addr") (option_map full_base (value_at (codes "base_addr") ms)) in
    let bases = pair_if (codes "base_addrs") (option_map full_bases (value_at (codes "base_addrs") ms)) in
    c.in_ok-value-5.ensures
    ∙ ap (with_all bases) c.in_ok-value-4.ensures
    ∙ sym (with_append base bases (view c.in_ok-value-3.value))
    ∙ follow _ _ _ _ _ _ c.in_ok-value-3.ensures (c.in_ok-resets.ensures ∙ ap (λ d. value_or d (value_at (codes "reset_connections") ms)) c.no_ports-2.ensures)
    ∙ follow _ _ _ _ _ _ c.in_ok-value-2.ensures (c.in_ok-clocks.ensures ∙ ap (λ d. value_or d (value_at (codes "clock_srcs") ms)) c.no_ports.ensures)
    ∙ ap (with_all (instance_pairs ms)) c.in_ok-value.ensures
