use Rattle.cg_pinmux.proofs.OneMap.{ties_once}
use Rattle.cg_pinmux.proofs.laws.each_pad_has_one_bit.Goals as goal

pub returns : goal.returns
returns c = ties_once
