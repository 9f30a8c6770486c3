use Rattle.std.proofs.Common.{ap, refl, sym, ◌∙◌, ◌++◌}
use Rattle.std.specs.Prelude.{codes, option_map}
use Rattle.serde_json.specs.View.{view}
use Rattle.cg_keys.specs.Table.{value_at}
use Rattle.cg_keys.specs.Values.{members_of}
use Rattle.cg_blkdone.specs.Full.{pair_if, with_all}
use Rattle.cg_blkdone.proofs.InTurn.{follow, with_append}
use Rattle.cg_done.specs.FullTop.{full_clocks, full_pinmux, full_pinout, full_top, top_pairs, value_or}
use Rattle.cg_done.proofs.top.full_top.Goals as goal

pub returns : goal.returns
unfolding full_top top_pairs
returns c =
    let ms = members_of c.args.tree.now in
    let clocks = pair_if (codes "clocks") (option_map full_clocks (value_at (codes "clocks") ms)) in
    let pinout = pair_if (codes "pinout") (option_map full_pinout (value_at (codes "pinout") ms)) in
    let pinmux = pair_if (codes "pinmux") (option_map full_pinmux (value_at (codes "pinmux") ms)) in
    c.in_ok-value-7.ensures
    ∙ ap (with_all pinmux) (c.in_ok-value-6.ensures ∙ ap (with_all pinout) c.in_ok-value-5.ensures)
    ∙ sym (with_append pinout pinmux (with_all clocks (view c.in_ok-value-4.value)))
    ∙ sym (with_append clocks (pinout ++ pinmux) (view c.in_ok-value-4.value))
    ∙ follow _ _ _ _ _ _ c.in_ok-value-4.ensures refl
    ∙ follow _ _ _ _ _ _ c.in_ok-value-3.ensures refl
    ∙ follow _ _ _ _ _ _ c.in_ok-value-2.ensures (c.in_ok-spaces.ensures ∙ ap (λ d. value_or d (value_at (codes "addr_spaces") ms)) c.in_ok-one_space.ensures)
    ∙ ap (with_all (top_pairs ms)) c.in_ok-value.ensures
