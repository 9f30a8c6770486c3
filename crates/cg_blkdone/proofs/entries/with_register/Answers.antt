use Rattle.std.proofs.Common.{ap, ◌∙◌}
use Rattle.std.specs.Prelude.{codes, option_map}
use Rattle.serde_json.specs.Data.{boolean, string}
use Rattle.serde_json.specs.View.{view}
use Rattle.cg_blkread.specs.Raw.{is_true, register_reset, shared_of}
use Rattle.cg_blkdone.specs.Full.{hardware_word, number_of, pair_if, register_pairs, software_word, with_all}
use Rattle.cg_blkdone.proofs.InTurn.{follow}
use Rattle.cg_blkdone.proofs.entries.with_register.Goals as goal

pub returns : goal.returns
unfolding register_pairs
returns c =
    let from = c.members-members.ensures in
    let shared = c.shared_of-shared.ensures ∙ ap shared_of from in
    c.in_ok-value-8.ensures
    ∙ ap (λ reset. with_all (pair_if (codes "resval") (option_map number_of reset)) (view c.in_ok-value-7.value)) (c.register_reset.ensures ∙ ap register_reset from)
    ∙ follow _ _ _ _ _ _ c.in_ok-value-7.ensures c.in_ok-register_fields.ensures
    ∙ follow _ _ _ _ _ _ c.in_ok-value-6.ensures (c.truth-4.ensures ∙ ap boolean (c.is_true-4.ensures ∙ ap (is_true (codes "shadowed")) from))
    ∙ follow _ _ _ _ _ _ c.in_ok-value-5.ensures (c.truth-3.ensures ∙ ap boolean (c.is_true-3.ensures ∙ ap (is_true (codes "hwre")) from))
    ∙ follow _ _ _ _ _ _ c.in_ok-value-4.ensures (c.truth-2.ensures ∙ ap boolean (c.is_true-2.ensures ∙ ap (is_true (codes "hwqe")) from))
    ∙ follow _ _ _ _ _ _ c.in_ok-value-3.ensures (c.truth.ensures ∙ ap boolean (c.is_true.ensures ∙ ap (is_true (codes "hwext")) from))
    ∙ follow _ _ _ _ _ _ c.in_ok-value-2.ensures (c.in_ok-hardware.ensures ∙ ap (λ s. string (hardware_word s.hw)) shared)
    ∙ follow _ _ _ _ _ _ c.in_ok-value.ensures (c.in_ok-software.ensures ∙ ap (λ s. string (software_word s.sw)) shared)
