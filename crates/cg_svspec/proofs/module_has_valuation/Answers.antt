use Rattle.cg_svspec.proofs.Exists.{module_has_valuation}
use Rattle.cg_svspec.proofs.module_has_valuation.Goals as goal

pub returns : goal.returns
returns c = module_has_valuation
