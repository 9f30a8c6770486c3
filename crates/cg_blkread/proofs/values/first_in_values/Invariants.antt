use Rattle.std.proofs.Common.{◌≡◌, drop}
use Rattle.std.specs.List.{flat_map}
use Rattle.cg_finding.specs.Finding.{earlier, first_of}
use Rattle.cg_finding.specs.Found.{sees}
use Rattle.cg_blkread.specs.Values.{entry_values}
use Rattle.cg_blkread.proofs.values.first_in_values.Given as goal

-- what was found and what the entries that are left break have the first of all
abbrev pub invariant-loop-entry : goal.invariant-loop-entry
invariant-loop-entry l =
    earlier (sees l.first) (first_of (flat_map entry_values (drop l.entry-index l.entries))) ≡ first_of (flat_map entry_values l.entries)
