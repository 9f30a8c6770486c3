use Rattle.cg_space.proofs.Mapping.{rows_are_the_map}
use Rattle.cg_space.proofs.laws.rows_are_the_map.Goals as goal

pub returns : goal.returns
returns c = rows_are_the_map
