use Rattle.std.proofs.Common.{◌≡◌, ◌++◌, ◌+◌, drop}
use Rattle.cg_blkread.specs.Raw.{raw_fields}
use Rattle.cg_blkread.specs.Shared.{shared_view}
use Rattle.cg_blkread.proofs.read_fields.written_fields.Given as goal

-- the fields so far and those of the items that are left are all
abbrev pub invariant-loop-place : goal.invariant-loop-place
invariant-loop-place l =
    l.fields ++ raw_fields (shared_view l.shared) (l.place + 1) (drop l.place l.items) ≡ raw_fields (shared_view l.shared) 1 l.items
