use Rattle.cg_layout.proofs.Gating.{tells_face}
use Rattle.cg_layout.proofs.faults.first_in_face.Goals as goal

pub returns : goal.returns
returns c =
    rw (c.earlier_of.ensures, c.earlier_of-in_items.ensures)
    (tells_face c.args.face.now c.args.items.now c.first_without_row.ensures c.first_in_gates.ensures c.first_in_offsets.ensures)
