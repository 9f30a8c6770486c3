use Rattle.std.proofs.Common.{refl}
use Rattle.cg_gen.proofs.Zeros.{are_too_many}
use Rattle.cg_gen.proofs.topgen.too_many_bytes.Goals as goal

pub returns : goal.returns
returns c = are_too_many _ c.zeros.result refl c.zeros.ensures
