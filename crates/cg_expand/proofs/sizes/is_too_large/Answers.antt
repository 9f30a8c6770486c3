use Rattle.std.proofs.Common.{◌≡◌, [], ◌+◌, ◌||◌, true, nat_lt, sum_by, rules, ap, ◌∙◌}
use Rattle.cg_desc.specs.Items.{automatic_items, has_some}
use Rattle.cg_expand.specs.Parts.Sizes.{capped, face_fields, face_rows}
use Rattle.cg_expand.specs.Violations.{fields_in, rows_in}
use Rattle.cg_expand.proofs.AutomaticCounts.{capped_twice, no_faces, size_of_faces, some_unless_empty}
use Rattle.cg_expand.proofs.sizes.is_too_large.Goals as goal

pub returns-then-is_empty : goal.returns-then-is_empty
returns-then-is_empty c = no_faces (automatic_items c.args.block.now) c.args.block.now.faces (search rules)

pub returns : goal.returns
returns c =
    let b = c.args.block.now in
    let some : has_some b.faces ≡ true = some_unless_empty b.faces (λ (none : b.faces ≡ []). search rules) in
    let faces = c.faces_size.ensures ∙ ap (λ fs. capped (sum_by face_rows fs) (sum_by face_fields fs)) c.as_slice.ensures in
    let size = c.plus.ensures
    ∙ (λ i. capped ((c.automatic_size.ensures i).rows + (faces i).rows) ((c.automatic_size.ensures i).fields + (faces i).fields))
    ∙ capped_twice (sum_by rows_in (automatic_items b)) (sum_by face_rows b.faces) (sum_by fields_in (automatic_items b)) (sum_by face_fields b.faces) in
    c.is_too_large.ensures
    ∙ (λ i. nat_lt 2048 (size i).rows || nat_lt 4096 (size i).fields)
    ∙ size_of_faces (automatic_items b) b.faces c.requires some
