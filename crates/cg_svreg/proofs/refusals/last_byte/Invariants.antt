use Rattle.std.proofs.Common.{◌≡◌, drop}
use Rattle.cg_regspec.specs.RegisterModule.{last_byte}
use Rattle.cg_svreg.proofs.refusals.last_byte.Given as goal

-- the last byte so far, behind which the fields that are left may reach further, is the one of all fields in the end
abbrev pub invariant-loop-field : goal.invariant-loop-field
invariant-loop-field l = last_byte l.last (drop l.field-index l.fields) ≡ last_byte 0 l.fields
