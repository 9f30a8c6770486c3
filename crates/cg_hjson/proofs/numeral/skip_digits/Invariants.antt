use Rattle.std.proofs.Common.{◌≡◌, length}
use Rattle.cg_docspec.specs.Machine.Numeral.{skip_digits}
use Rattle.cg_hjson.proofs.numeral.skip_digits.Given as goal

-- what is left behind the digits of the rest is left behind those of the text
abbrev pub invariant-loop-rest : goal.invariant-loop-rest
invariant-loop-rest l = skip_digits l.rest ≡ skip_digits l.text

abbrev pub decreases-loop-rest : goal.decreases-loop-rest
decreases-loop-rest l = length l.rest
