use Rattle.std.proofs.Common.{◌≡◌, ◌++◌, drop, map}
use Rattle.cg_sv.specs.Views.{entry_of}
use Rattle.cg_regspec.specs.RegisterModule.{rows_entries, all_ones}
use Rattle.cg_svreg.specs.Parts.{read_before}
use Rattle.cg_svreg.proofs.rows.add_rows.Given as goal

-- the entries so far, and then those of the rows that are left, are all entries
abbrev pub invariant-loop-number : goal.invariant-loop-number
invariant-loop-number l =
    map entry_of l.entries ++ rows_entries l.rows l.number (read_before l.number) (drop l.number l.rows)
    ≡ map entry_of l.fn.entries ++ rows_entries l.rows 0 all_ones l.rows
