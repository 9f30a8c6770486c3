use Rattle.std.proofs.Common.{◌≡◌, drop}
use Rattle.cg_desc.specs.Bases.{written_base}
use Rattle.cg_desc.proofs.base.written_base.Given as goal

-- the bases that are left have the same one
abbrev pub invariant-loop-base : goal.invariant-loop-base
invariant-loop-base l = written_base (drop l.base-index l.bases) l.space ≡ written_base l.bases l.space
