use Rattle.cg_topspec.proofs.Vectors.{vectors_hold}
use Rattle.cg_topspec.proofs.vectors_hold.Goals as goal

pub returns : goal.returns
returns c = vectors_hold
