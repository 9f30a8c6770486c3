use Rattle.cg_base.proofs.Numbers.{IsNumber-number_of, number_of-IsNumber}
use Rattle.cg_base.proofs.number.number_of_is_exact.Goals as goal

pub returns : goal.returns
returns c = λ s n. (IsNumber-number_of s n, number_of-IsNumber s n)
