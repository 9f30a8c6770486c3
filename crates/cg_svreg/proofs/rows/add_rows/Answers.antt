use Rattle.cg_svreg.proofs.RowsLeft.{one_row_more}
use Rattle.cg_svreg.proofs.rows.add_rows.Goals as goal

pub loop-number-preserved : goal.loop-number-preserved
loop-number-preserved c =
    one_row_more c.args.rows.now c.args.rows.now c.loop-number.number c.index-rows-number.result _ _ _ c.loop-number-test.true c.index-rows-number.is
    c.in_ok-add_row.ensures c.loop-number.invariant
