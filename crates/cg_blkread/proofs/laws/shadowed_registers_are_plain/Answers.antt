use Rattle.cg_blkread.proofs.Plain.{shadowed_are_plain}
use Rattle.cg_blkread.proofs.laws.shadowed_registers_are_plain.Goals as goal

pub returns : goal.returns
returns c = shadowed_are_plain
