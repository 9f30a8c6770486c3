use Rattle.cg_finding.proofs.Firsts.{first_of_is_first}
use Rattle.cg_finding.proofs.laws.the_first_is_first.Goals as goal

pub returns-clause-first : goal.returns-clause-first
returns-clause-first c = first_of_is_first
