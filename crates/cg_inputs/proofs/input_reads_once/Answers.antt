use Rattle.cg_inputs.proofs.Readings.{reads_once}
use Rattle.cg_inputs.proofs.input_reads_once.Goals as goal

pub returns : goal.returns
returns c = reads_once
