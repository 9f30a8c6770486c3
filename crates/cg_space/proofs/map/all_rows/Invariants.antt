use Rattle.std.proofs.Common.{[]}
use Rattle.cg_space.specs.Inner.Leaves.{Adds, Below, IsRowIn, RowsRise}
use Rattle.cg_space.proofs.map.all_rows.Given as goal

-- the rows of the crossbars so far are there, in order
abbrev pub invariant-loop-xbar : goal.invariant-loop-xbar
invariant-loop-xbar l = record { adds : Adds [] l.rows (Below (IsRowIn l.top) l.xbar); rises : RowsRise l.rows }
