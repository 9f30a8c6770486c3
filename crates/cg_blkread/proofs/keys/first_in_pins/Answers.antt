use Rattle.cg_blkread.proofs.MoreKeys.{by_rows, merged}
use Rattle.cg_blkread.proofs.keys.first_in_pins.Goals as goal

pub returns : goal.returns
returns c =
    merged _ _ _ _ _ c.earlier_of-2.ensures (by_rows _ _ _ _ _ c.first_in_objects-inputs.ensures c.pin_rows.ensures)
    (merged _ _ _ _ _ c.earlier_of.ensures (by_rows _ _ _ _ _ c.first_in_objects-outputs.ensures c.pin_rows-2.ensures)
    (by_rows _ _ _ _ _ c.first_in_objects-both.ensures c.pin_rows-3.ensures))
