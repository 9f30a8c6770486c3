use Rattle.cg_nodes.proofs.PartsListed.{parts_listed, parts_one}
use Rattle.cg_nodes.proofs.laws.parts_are_one.Goals as goal

pub returns-clause-listed : goal.returns-clause-listed
returns-clause-listed c = parts_listed

pub returns-clause-one : goal.returns-clause-one
returns-clause-one c = parts_one
