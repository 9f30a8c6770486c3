use Rattle.cg_space.proofs.OnePlace.{each_address_is_one_place}
use Rattle.cg_space.proofs.laws.each_address_is_one_place.Goals as goal

pub returns : goal.returns
returns c = each_address_is_one_place
