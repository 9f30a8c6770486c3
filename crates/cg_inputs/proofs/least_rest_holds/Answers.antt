use Rattle.cg_inputs.proofs.LeastRest.{least_holds}
use Rattle.cg_inputs.proofs.least_rest_holds.Goals as goal

pub returns : goal.returns
returns c = least_holds
