use Rattle.std.proofs.Common.{ap, sym, ◌∙◌}
use Rattle.std.specs.Prelude.{codes}
use Rattle.serde_json.specs.Data.{boolean}
use Rattle.serde_json.specs.View.{view}
use Rattle.cg_hjson.specs.Json.{json_of}
use Rattle.cg_hjson.specs.Views.{tree_of}
use Rattle.cg_keys.specs.Values.{members_of}
use Rattle.cg_blkread.specs.Raw.{is_compact, is_true}
use Rattle.cg_blkdone.specs.Full.{copy_pairs, number_if, register_pairs, with_all}
use Rattle.cg_blkdone.proofs.InTurn.{follow, with_append}
use Rattle.cg_blkdone.proofs.entries.full_multireg.Goals as goal

pub returns : goal.returns
unfolding copy_pairs
returns c =
    let from = c.members-members.ensures in
    let ms = members_of c.args.tree.now in
    c.in_ok-value-4.ensures
    ∙ ap (λ l. with_all (number_if (codes "count") l) (view c.in_ok-value-3.value)) from
    ∙ follow _ _ _ _ _ _ c.in_ok-value-3.ensures (c.truth-2.ensures ∙ ap boolean (c.is_compact.ensures ∙ ap is_compact from))
    ∙ follow _ _ _ _ _ _ c.in_ok-value-2.ensures (c.truth.ensures ∙ ap boolean (c.is_true-own_gates.ensures ∙ ap (is_true (codes "regwen_multi")) from))
    ∙ ap (with_all (copy_pairs ms)) c.in_ok-value.ensures
    ∙ sym (with_append (register_pairs ms) (copy_pairs ms) (json_of (tree_of c.args.tree.now)))
