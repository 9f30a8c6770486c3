use Rattle.cg_sv.proofs.Printed.{stands_as_printed}
use Rattle.cg_sv.proofs.layout.print.Goals as goal

pub returns-clause-stands : goal.returns-clause-stands
returns-clause-stands c = stands_as_printed _ _ c.requires.printable c.in_ok-text.ensures
