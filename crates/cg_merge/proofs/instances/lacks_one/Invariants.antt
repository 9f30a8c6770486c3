use Rattle.std.proofs.Common.{ℕ, ◌<◌}
use Rattle.cg_desc.specs.Merged.{BaseIs}
use Rattle.cg_merge.proofs.instances.lacks_one.Given as goal

-- each interface so far has a base
abbrev pub invariant-loop-face : goal.invariant-loop-face
invariant-loop-face l = (f : ℕ) → f < l.face → (base : ℕ) × BaseIs l.top l.inst f base
