use Rattle.cg_pinmux.proofs.OneMap.{inputs_apart, outputs_apart}
use Rattle.cg_pinmux.proofs.laws.bits_of_pads_have_no_number.Goals as goal

pub returns-clause-inputs : goal.returns-clause-inputs
returns-clause-inputs c = inputs_apart

pub returns-clause-outputs : goal.returns-clause-outputs
returns-clause-outputs c = outputs_apart
