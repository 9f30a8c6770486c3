use Rattle.std.proofs.Common.{◌≡◌, drop}
use Rattle.std.specs.List.{flat_map}
use Rattle.cg_finding.specs.Finding.{earlier, first_of}
use Rattle.cg_finding.specs.Found.{sees}
use Rattle.cg_blkread.specs.Values.{wide_reset}
use Rattle.cg_blkread.proofs.values.first_wide_reset.Given as goal

-- what was found and what the fields that are left break have the first of all
abbrev pub invariant-loop-field : goal.invariant-loop-field
invariant-loop-field l =
    earlier (sees l.first) (first_of (flat_map (wide_reset l.register) (drop l.field-index l.fields))) ≡ first_of (flat_map (wide_reset l.register) l.fields)
