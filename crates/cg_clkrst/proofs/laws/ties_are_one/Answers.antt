use Rattle.cg_clkrst.proofs.NamedSources.{one_ties}
use Rattle.cg_clkrst.proofs.laws.ties_are_one.Goals as goal

pub returns : goal.returns
returns c = one_ties
