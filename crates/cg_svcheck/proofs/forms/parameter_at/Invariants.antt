use Rattle.std.proofs.Common.{◌≡◌, drop, map}
use Rattle.cg_sv.specs.Views.{parameter_of}
use Rattle.cg_svspec.specs.Value.{parameter_at}
use Rattle.cg_svcheck.proofs.forms.parameter_at.Given as goal

-- what is left says what all say
abbrev pub invariant-loop-parameter : goal.invariant-loop-parameter
invariant-loop-parameter l = parameter_at l.name (map parameter_of (drop l.parameter-index l.params)) ≡ parameter_at l.name (map parameter_of l.params)
