use Rattle.cg_topspec.proofs.Vectors.{bit_is_read}
use Rattle.cg_topspec.proofs.bit_is_read.Goals as goal

pub returns : goal.returns
returns c = bit_is_read
