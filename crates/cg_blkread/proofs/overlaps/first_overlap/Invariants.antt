use Rattle.std.proofs.Common.{◌≡◌, drop, take, []}
use Rattle.cg_finding.specs.Finding.{each_after, earlier, first_of}
use Rattle.cg_finding.specs.Found.{sees}
use Rattle.cg_blkread.specs.Seen.{HasBitsOf}
use Rattle.cg_blkread.specs.Values.{overlap}
use Rattle.cg_blkread.proofs.overlaps.first_overlap.Given as goal

-- the bits of the fields so far are kept, and what was found and what is left have the first of all
abbrev pub invariant-loop-field : goal.invariant-loop-field
invariant-loop-field l = record {
  seen : HasBitsOf l.seen (take l.field-index l.fields);
  rest : earlier (sees l.first) (first_of (each_after overlap (take l.field-index l.fields) (drop l.field-index l.fields)))
      ≡ first_of (each_after overlap [] l.fields);
}
