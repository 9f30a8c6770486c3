use Rattle.std.proofs.Common.{sym, ap, ◌∙◌}
use Rattle.serde_json.specs.Data.{string}
use Rattle.serde_json.specs.View.{view}
use Rattle.cg_blkdone.specs.Full.{bits_text, field_pairs, number_of, with_all}
use Rattle.cg_blkdone.proofs.InTurn.{follow, with_nothing}
use Rattle.cg_blkdone.proofs.fields.full_field.Goals as goal

pub returns : goal.returns
unfolding field_pairs
returns c =
    sym (with_nothing (view c.in_ok-value-7.value))
    ∙ follow _ _ _ _ _ _ c.in_ok-value-7.ensures c.truth.ensures
    ∙ follow _ _ _ _ _ _ c.in_ok-value-6.ensures (c.number.ensures ∙ ap number_of c.reset_value-resval.ensures)
    ∙ follow _ _ _ _ _ _ c.in_ok-value-5.ensures c.in_ok-hardware.ensures
    ∙ follow _ _ _ _ _ _ c.in_ok-value-4.ensures c.in_ok-software.ensures
    ∙ follow _ _ _ _ _ _ c.in_ok-value-3.ensures (c.in_ok-text.ensures ∙ ap string c.as_str.ensures)
    ∙ follow _ _ _ _ _ _ c.in_ok-value-2.ensures (c.in_ok-bits.ensures ∙ ap (λ b. string (bits_text b)) c.places_of.ensures)
    ∙ ap (with_all (field_pairs c.args.register_resval c.args.field.now)) c.in_ok-value.ensures
