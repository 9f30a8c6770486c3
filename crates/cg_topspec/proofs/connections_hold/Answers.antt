use Rattle.cg_topspec.proofs.Tied.{connections_hold}
use Rattle.cg_topspec.proofs.connections_hold.Goals as goal

pub returns : goal.returns
returns c = connections_hold
