use Rattle.std.proofs.Common.{◌≡◌, sum_by, take}
use Rattle.cg_expand.specs.Parts.Sizes.{capped, entry_fields, entry_rows}
use Rattle.cg_expand.proofs.sizes.entries_size.Given as goal

-- the size of the entries so far
abbrev pub invariant-loop-entry : goal.invariant-loop-entry
invariant-loop-entry l = l.size ≡ capped (sum_by entry_rows (take l.entry-index l.entries)) (sum_by entry_fields (take l.entry-index l.entries))
