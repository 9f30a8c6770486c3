use Rattle.std.proofs.Common.{◌≡◌, ◌++◌, drop}
use Rattle.cg_expand.proofs.entries.copy_fields.Given as goal

-- the copies so far, and the fields that are left, are all
abbrev pub invariant-loop-field : goal.invariant-loop-field
invariant-loop-field l = l.copies ++ drop l.field-index l.fields ≡ l.fields
