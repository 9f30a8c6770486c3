use Rattle.std.proofs.Common.{◌≡◌, ◌++◌, Option, None, ap, sym, ◌∙◌, subst}
use Rattle.std.specs.List.{flat_map}
use Rattle.cg_svspec.specs.Printable.{AllOf}
use Rattle.cg_desc.specs.declared.block.BlockDesc.{BlockDesc}
use Rattle.cg_finding.specs.Finding.{Finding, earlier, first_of}
use Rattle.cg_finding.proofs.Firsts.{first_of-append}
use Rattle.cg_expand.specs.Expands.{HasValidItems}
use Rattle.cg_expand.specs.Parts.Faults.{early_faults, face_faults, late_faults}
use Rattle.cg_expand.proofs.FirstFault.{first_early, first_found, names_violation, none_found}
use Rattle.cg_expand.proofs.Rooms.{items_with_room, room_for_alerts, room_for_interrupts, room_where_whole}
use Rattle.cg_expand.proofs.ValidItems.{block_valid}
use Rattle.cg_expand.proofs.block.expand.Goals as goal

-- the first of what is found early and of what is found late is the first of all
both_found : (b : BlockDesc) (early late all : Option Finding) → early ≡ first_of (early_faults b) → late ≡ first_of (late_faults b) → all ≡ earlier early late
    → first_of (early_faults b ++ late_faults b) ≡ all
both_found b early late all e l a = first_of-append (early_faults b) (late_faults b) ∙ (λ i. earlier (sym e i) (sym l i)) ∙ sym a

pub returns-clause-expands : goal.returns-clause-expands
returns-clause-expands c =
    names_violation c.refusal.result c.args.block.now.file _ _ c.refusal.ensures.names
    (first_early c.args.block.now _ (sym c.is_too_large-too_large.ensures ∙ c.if-too_large.true) (sym c.all_behind.ensures ∙ c.if-all_behind.true) (sym c.in-Some.ensures))

pub returns-in-Some-earlier_of-clause-expands : goal.returns-in-Some-earlier_of-clause-expands
returns-in-Some-earlier_of-clause-expands c =
    let late = c.in_ok-first_in_faces.ensures ∙ ap (λ faces. first_of (flat_map face_faults faces)) (c.as_slice.ensures ∙ c.in_ok-faces.ensures) in
    names_violation c.refusal-in-Some-earlier_of.result c.args.block.now.file _ _ c.refusal-in-Some-earlier_of.ensures.names
    (first_found c.args.block.now _ (both_found c.args.block.now _ _ _ c.first_early-early.ensures late c.in-Some-earlier_of.ensures))

pub returns-in-None-clause-expands : goal.returns-in-None-clause-expands
returns-in-None-clause-expands c =
    let late = c.in_ok-first_in_faces.ensures ∙ ap (λ faces. first_of (flat_map face_faults faces)) (c.as_slice.ensures ∙ c.in_ok-faces.ensures) in
    let whole = none_found c.args.block.now (both_found c.args.block.now _ _ None c.first_early-early.ensures late c.in-None.ensures) in
    (whole, c.in_ok-faces.ensures ∙ items_with_room c.args.block.now (room_where_whole c.args.block.now whole))

pub returns-in-None-clause-valid : goal.returns-in-None-clause-valid
returns-in-None-clause-valid c =
    let b = c.args.block.now in
    let late = c.in_ok-first_in_faces.ensures ∙ ap (λ faces. first_of (flat_map face_faults faces)) (c.as_slice.ensures ∙ c.in_ok-faces.ensures) in
    let whole = none_found b (both_found b _ _ None c.first_early-early.ensures late c.in-None.ensures) in
    let room = room_where_whole b whole in
    subst (AllOf HasValidItems) (sym (c.in_ok-faces.ensures ∙ items_with_room b room)) (block_valid b c.requires.valid (room_for_interrupts b room) (room_for_alerts b room))
