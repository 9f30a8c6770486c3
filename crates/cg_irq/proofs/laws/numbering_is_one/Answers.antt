use Rattle.cg_irq.proofs.OneNumbering.{are_listed, one_numbering}
use Rattle.cg_irq.proofs.laws.numbering_is_one.Goals as goal

pub returns-clause-listed : goal.returns-clause-listed
returns-clause-listed c = are_listed

pub returns-clause-one : goal.returns-clause-one
returns-clause-one c = one_numbering
