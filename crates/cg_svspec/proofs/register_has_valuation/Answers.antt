use Rattle.cg_svspec.proofs.Exists.{has_valuation}
use Rattle.cg_svspec.proofs.register_has_valuation.Goals as goal

pub returns : goal.returns
returns c = has_valuation
