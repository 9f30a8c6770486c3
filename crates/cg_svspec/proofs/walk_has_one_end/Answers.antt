use Rattle.cg_svspec.proofs.OneEnd.{walk_has_one_end}
use Rattle.cg_svspec.proofs.walk_has_one_end.Goals as goal

pub returns : goal.returns
returns c = walk_has_one_end
