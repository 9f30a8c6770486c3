use Rattle.cg_topspec.proofs.WellFormedTop.{a_valuation_exists}
use Rattle.cg_topspec.proofs.a_valuation_exists.Goals as goal

pub returns : goal.returns
returns c = a_valuation_exists
