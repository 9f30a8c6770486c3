use Rattle.cg_crossbar.proofs.Once.{good_unbroken, good_one}
use Rattle.cg_crossbar.proofs.laws.one_crossbar_or_none.Goals as goal

pub returns-clause-unbroken : goal.returns-clause-unbroken
returns-clause-unbroken c = good_unbroken

pub returns-clause-one : goal.returns-clause-one
returns-clause-one c = good_one
