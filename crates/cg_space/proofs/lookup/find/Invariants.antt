use Rattle.std.proofs.Common.{◌≡◌, ℕ, ◌<◌, Some, slice_get}
use Rattle.cg_space.specs.Rows.{RowHolds}
use Rattle.cg_space.specs.declared.row.Row.{Row}
use Rattle.cg_space.proofs.lookup.find.Given as goal

-- no row so far holds the address
abbrev pub invariant-loop-row : goal.invariant-loop-row
invariant-loop-row l = (j : ℕ) (row : Row) → j < l.row-index → slice_get l.rows j ≡ Some row → ¬ RowHolds row l.host l.addr
