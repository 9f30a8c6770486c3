use Rattle.cg_pinmux.proofs.OneMap.{inputs_once, outputs_once}
use Rattle.cg_pinmux.proofs.laws.each_bit_has_one_number.Goals as goal

pub returns-clause-inputs : goal.returns-clause-inputs
returns-clause-inputs c = inputs_once

pub returns-clause-outputs : goal.returns-clause-outputs
returns-clause-outputs c = outputs_once
