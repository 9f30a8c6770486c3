use Rattle.std.proofs.Common.{◌≡◌, ◌++◌, drop, map}
use Rattle.std.specs.List.{flat_map}
use Rattle.cg_hdrspec.specs.BlockHeader.{row_definitions}
use Rattle.cg_blkhdr.specs.Small.{RowsAreSmall}
use Rattle.cg_blkhdr.specs.Views.{definition_of}
use Rattle.cg_blkhdr.proofs.definitions.add_rows.Given as goal

-- the definitions so far, and then those of the rows that are left, are all definitions
abbrev pub invariant-loop-row : goal.invariant-loop-row
invariant-loop-row l = record {
  definitions : map definition_of l.definitions ++ flat_map (row_definitions l.prefix) (drop l.row-index l.rows)
      ≡ map definition_of l.fn.definitions ++ flat_map (row_definitions l.prefix) l.rows;
  small : RowsAreSmall (drop l.row-index l.rows);
}
