use Rattle.cg_outputs.proofs.Rising.{outputs_one}
use Rattle.cg_outputs.proofs.laws.outputs_are_one_list.Goals as goal

pub returns : goal.returns
returns c = outputs_one
