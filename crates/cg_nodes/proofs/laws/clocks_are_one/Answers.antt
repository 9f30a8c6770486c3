use Rattle.cg_nodes.proofs.ClocksListed.{clocks_listed, clocks_one}
use Rattle.cg_nodes.proofs.laws.clocks_are_one.Goals as goal

pub returns-clause-listed : goal.returns-clause-listed
returns-clause-listed c = clocks_listed

pub returns-clause-one : goal.returns-clause-one
returns-clause-one c = clocks_one
