use Rattle.std.proofs.Common.{◌≡◌, drop, map}
use Rattle.std.specs.List.{list_all}
use Rattle.cg_sv.specs.Views.{parameter_of}
use Rattle.cg_svcheck.specs.Printing.{is_printable_parameter}
use Rattle.cg_svcheck.proofs.printing.are_printable_parameters.Given as goal

-- what the parameters that are left say is what all say
abbrev pub invariant-loop-parameter : goal.invariant-loop-parameter
invariant-loop-parameter l = list_all is_printable_parameter (map parameter_of (drop l.parameter-index l.parameters)) ≡ list_all is_printable_parameter (map parameter_of l.parameters)
