use Rattle.std.proofs.Common.{sym, ◌∙◌}
use Rattle.cg_layout.proofs.Gating.{tells_no_row, tells_row}
use Rattle.cg_layout.proofs.faults.first_without_row.Goals as goal

pub returns-then-has_row : goal.returns-then-has_row
returns-then-has_row c = tells_row c.args.face.now c.args.items.now (sym c.has_row.ensures ∙ c.if-has_row.true)

pub returns : goal.returns
returns c =
    rw c.no_items.ensures
    (tells_no_row c.args.face.now c.args.items.now c.name_or_empty.result.now (sym c.has_row.ensures ∙ c.if-has_row.false) c.name_or_empty.ensures)
