use Rattle.cg_desc.proofs.OneTarget.{each_address_has_one_target}
use Rattle.cg_desc.proofs.address.each_address_has_one_target.Goals as goal

pub returns : goal.returns
returns c = each_address_has_one_target
