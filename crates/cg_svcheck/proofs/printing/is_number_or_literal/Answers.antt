use Rattle.std.proofs.Common.{sym}
use Rattle.cg_svcheck.proofs.FormLemmas.{no_literal}
use Rattle.cg_svcheck.proofs.printing.is_number_or_literal.Goals as goal

pub returns-in_default : goal.returns-in_default
returns-in_default c = sym (no_literal c.args.value.now c.in_default.not-Lit)
