use Rattle.cg_sveval.proofs.BitSteps.{below_step, bit_below}
use Rattle.cg_sveval.proofs.bits.+number_of.Goals as goal

pub returns-clause-below : goal.returns-clause-below
returns-clause-below n c =
    below_step c.bit_number.result c.number_of-higher.result c.args.most (bit_below _ c.bit_number.result c.bit_number.ensures) c.number_of-higher.ensures.below c.if-most-eq0.false
