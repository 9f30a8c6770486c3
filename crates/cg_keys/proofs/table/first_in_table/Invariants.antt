use Rattle.std.proofs.Common.{◌≡◌, drop, map}
use Rattle.cg_finding.specs.Finding.{earlier, first_of}
use Rattle.cg_finding.specs.Found.{sees}
use Rattle.cg_keys.specs.Table.{key_of, table_faults}
use Rattle.cg_keys.proofs.table.first_in_table.Given as goal

-- what was found and what is wrong at the keys that are left have the first of all
abbrev pub invariant-loop-row : goal.invariant-loop-row
invariant-loop-row l =
    earlier (sees l.first) (first_of (table_faults l.opener l.members (map key_of (drop l.row-index l.rows))))
    ≡ first_of (table_faults l.opener l.members (map key_of l.rows))
