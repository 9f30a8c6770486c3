use Rattle.std.proofs.Common.{sym, ap, min}
use Rattle.cg_svcheck.proofs.FormLemmas.{drives_nothing}
use Rattle.cg_svcheck.proofs.drivers.driven_count.Goals as goal

pub returns-in_default : goal.returns-in_default
returns-in_default c = sym (ap (min 2) (drives_nothing c.args.name.now c.args.expr.now c.in_default.not-Net c.in_default.not-Cat))
