use Rattle.std.proofs.Common.{sym}
use Rattle.cg_svcheck.proofs.FormLemmas.{is_no_literal}
use Rattle.cg_svcheck.proofs.forms.literal.Goals as goal

pub returns-in_default : goal.returns-in_default
returns-in_default c = sym (is_no_literal c.args.expr.now c.in_default.not-Lit)
