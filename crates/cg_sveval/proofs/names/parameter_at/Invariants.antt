use Rattle.std.proofs.Common.{◌≡◌, drop, map}
use Rattle.cg_svspec.specs.Value.{parameter_at}
use Rattle.cg_sv.specs.Views.{parameter_of}
use Rattle.cg_sveval.proofs.names.parameter_at.Given as goal

-- what is left has the same first one of the name
abbrev pub invariant-loop-param : goal.invariant-loop-param
invariant-loop-param l = parameter_at l.name (map parameter_of (drop l.param-index l.params)) ≡ parameter_at l.name (map parameter_of l.params)
