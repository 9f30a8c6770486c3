-- No row of a map is an error.
use Rattle.std.proofs.Common.{◌≡◌, ◌≢◌, List}
use Rattle.cg_svspec.specs.Names.{Among}
use Rattle.cg_desc.specs.declared.address.Place.TheVariants.{Error}
use Rattle.cg_desc.specs.declared.top.MergedTop.{MergedTop}
use Rattle.cg_space.specs.Rows.{AreRows, IsRow}
use Rattle.cg_space.specs.declared.row.Row.{Row}

row_is_something : (m : MergedTop) (row : Row) → IsRow m row → row.place ≢ Error
row_is_something m _ (IsRow.register _ _ _ _ _ _ _ _ _ _ _ _ _) e = absurd cc
row_is_something m _ (IsRow.window _ _ _ _ _ _ _ _ _ _ _ _ _) e = absurd cc
row_is_something m _ (IsRow.outside _ _ _ _ _ _ _ _ _ _ _) e = absurd cc

pub rows_are_something : (m : MergedTop) (rows : List Row) → AreRows m rows → (row : Row) → Among row rows → row.place ≢ Error
rows_are_something m rows are row among = row_is_something m row ((are.members row).0 among)
