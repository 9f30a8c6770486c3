use Rattle.std.proofs.Common.{◌≡◌, ◌++◌, drop, map}
use Rattle.cg_sv.specs.Views.{entry_of}
use Rattle.cg_regspec.specs.RegisterModule.{rows_flops}
use Rattle.cg_svreg.proofs.states.add_rows_flops.Given as goal

-- the entries so far, and then those of the rows that are left, are all entries
abbrev pub invariant-loop-number : goal.invariant-loop-number
invariant-loop-number l =
    map entry_of l.entries ++ rows_flops l.number (drop l.number l.rows) ≡ map entry_of l.fn.entries ++ rows_flops 0 l.rows
