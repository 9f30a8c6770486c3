use Rattle.cg_regspec.proofs.Carried.{each_access_is_carried}
use Rattle.cg_regspec.proofs.each_access_is_carried.Goals as goal

pub returns : goal.returns
returns c = each_access_is_carried
