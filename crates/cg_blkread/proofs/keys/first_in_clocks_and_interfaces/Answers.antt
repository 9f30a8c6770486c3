use Rattle.cg_blkread.proofs.MoreKeys.{by_rows, merged}
use Rattle.cg_blkread.proofs.keys.first_in_clocks_and_interfaces.Goals as goal

pub returns : goal.returns
returns c =
    merged _ _ _ _ _ c.earlier_of.ensures (by_rows _ _ _ _ _ c.first_in_objects-clocking.ensures c.clocking_rows.ensures)
    (by_rows _ _ _ _ _ c.first_in_objects-interfaces.ensures c.interface_rows.ensures)
