use Rattle.std.proofs.Common.{refl}
use Rattle.cg_rows_words.proofs.basics.aligned.Goals as goal

pub align_up-least-requires-clause-power : goal.align_up-least-requires-clause-power
align_up-least-requires-clause-power c = (3, refl)

pub align_up-least-requires-else-eq-clause-power : goal.align_up-least-requires-else-eq-clause-power
align_up-least-requires-else-eq-clause-power c = (2, refl)
