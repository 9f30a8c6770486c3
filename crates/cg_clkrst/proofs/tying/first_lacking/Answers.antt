use Rattle.cg_finding.proofs.Told.{tells_either}
use Rattle.cg_clkrst.proofs.tying.first_lacking.Goals as goal

pub returns : goal.returns
returns c = rw c.earlier_of.ensures (tells_either c.in_ok-instances.ensures c.in_ok-crossbars.ensures)
