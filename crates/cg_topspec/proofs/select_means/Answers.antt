use Rattle.cg_topspec.proofs.Selecting.{select_means}
use Rattle.cg_topspec.proofs.select_means.Goals as goal

pub returns : goal.returns
returns c = select_means
