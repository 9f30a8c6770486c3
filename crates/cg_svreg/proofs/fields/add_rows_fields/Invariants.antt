use Rattle.std.proofs.Common.{◌≡◌, ◌++◌, drop, map}
use Rattle.cg_sv.specs.Views.{entry_of}
use Rattle.cg_regspec.specs.RegisterModule.{rows_fields}
use Rattle.cg_svreg.specs.Narrow.{RowsAreNarrow}
use Rattle.cg_svreg.proofs.fields.add_rows_fields.Given as goal

-- the entries so far, and then those of the rows that are left, are all entries
abbrev pub invariant-loop-number : goal.invariant-loop-number
invariant-loop-number l = record {
  entries : map entry_of l.entries ++ rows_fields l.number (drop l.number l.rows) ≡ map entry_of l.fn.entries ++ rows_fields 0 l.rows;
  narrow : RowsAreNarrow (drop l.number l.rows);
}
