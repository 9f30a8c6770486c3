use Rattle.cg_regspec.proofs.Law.{register_module_means}
use Rattle.cg_regspec.proofs.register_module_means.Goals as goal

pub returns : goal.returns
returns c = register_module_means
