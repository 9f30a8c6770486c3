use Rattle.cg_pinmux.proofs.OneMap.{one_map}
use Rattle.cg_pinmux.proofs.laws.pins_are_one.Goals as goal

pub returns : goal.returns
returns c = one_map
