use Rattle.std.proofs.Common.{arith}
use Rattle.std.proofs.lemmas.Nat.{pow_pos}
use Rattle.cg_base.proofs.ArithmeticLemmas.{IsLeastMultiple-div_ceil, IsLeastMultiple-within}
use Rattle.cg_base.proofs.arithmetic.align_up.Goals as goal

pub returns-clause-least : goal.returns-clause-least
returns-clause-least c =
    rw c.div_ceil.ensures
    (IsLeastMultiple-div_ceil c.args.n c.args.to (omega (arith, c.requires.power.1, pow_pos c.requires.power.0)))

pub returns-clause-bound : goal.returns-clause-bound
returns-clause-bound c =
    IsLeastMultiple-within c.args.to c.args.n _ c.requires.power c.requires.within (omega arith) (returns-clause-least c)

pub returns-clause-none : goal.returns-clause-none
returns-clause-none c =
    (λ e m is. cc, λ above. absurd (omega (arith, above _ (returns-clause-least c), returns-clause-bound c)))
