use Rattle.std.proofs.Common.{rules}
use Rattle.cg_sv.proofs.Views.{value_text-other}
use Rattle.cg_sv.proofs.expression.print_value.Goals as goal

pub returns-in_ok-print_expression-in_default : goal.returns-in_ok-print_expression-in_default
returns-in_ok-print_expression-in_default c = rw (value_text-other c.args.value.now c.in_default.not-Lit) (search rules)
