use Rattle.cg_blkread.proofs.MoreKeys.{by_rows, merged}
use Rattle.cg_blkread.proofs.keys.first_in_signals.Goals as goal

pub returns : goal.returns
returns c =
    merged _ _ _ _ _ c.earlier_of-2.ensures (by_rows _ _ _ _ _ c.first_in_objects-interrupts.ensures c.interrupt_rows.ensures)
    (merged _ _ _ _ _ c.earlier_of.ensures (by_rows _ _ _ _ _ c.first_in_objects-alerts.ensures c.alert_rows.ensures)
    (by_rows _ _ _ _ _ c.first_in_objects-parameters.ensures c.parameter_rows.ensures))
