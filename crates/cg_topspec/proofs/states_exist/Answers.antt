use Rattle.cg_topspec.proofs.SomeStates.{states_exist}
use Rattle.cg_topspec.proofs.states_exist.Goals as goal

pub returns : goal.returns
returns c = states_exist
