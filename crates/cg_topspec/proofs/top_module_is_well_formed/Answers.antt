use Rattle.cg_topspec.proofs.WellFormedTop.{top_module_is_well_formed}
use Rattle.cg_topspec.proofs.top_module_is_well_formed.Goals as goal

pub returns : goal.returns
returns c = top_module_is_well_formed
