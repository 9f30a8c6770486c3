use Rattle.cg_irq.proofs.OneNumbering.{are_listed}
use Rattle.cg_irq.proofs.numbering.listed.Goals as goal

pub returns : goal.returns
returns c = rw (c.in_ok-intr.ensures, c.in_ok-alert.ensures) (are_listed c.args.top.now)
