use Rattle.cg_space.proofs.Judging.{NoneIs}
use Rattle.cg_space.proofs.verdict.is_among.Given as goal

-- none of those so far is the number
abbrev pub invariant-loop-other : goal.invariant-loop-other
invariant-loop-other l = NoneIs l.numbers l.number l.other-index
