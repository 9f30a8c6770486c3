use Rattle.std.proofs.Common.{◌≡◌, ◌++◌, drop, codes, cond, [], map}
use Rattle.cg_svspec.specs.Layout.{parameters_after_text}
use Rattle.cg_sv.specs.Views.{parameter_of}
use Rattle.cg_sv.proofs.entries.print_each_parameter.Given as goal

-- what is printed, and then the parameters that are left, are all parameters
abbrev pub invariant-loop-parameter : goal.invariant-loop-parameter
invariant-loop-parameter l =
    l.out ++ parameters_after_text (cond l.first [] (codes ", ")) (map parameter_of (drop l.parameter-index l.parameters))
    ≡ l.fn.out ++ parameters_after_text [] (map parameter_of l.parameters)
