use Rattle.std.proofs.Common.{◌≡◌, ◌++◌, drop}
use Rattle.std.specs.Fmt.{decimal}
use Rattle.cg_svspec.specs.Tree.{none}
use Rattle.cg_regspec.specs.RegisterModule.{highest_first}
use Rattle.cg_svreg.specs.Parts.{from_low}
use Rattle.cg_svreg.proofs.answer.highest_first.Given as goal

-- the rows that are left, above the parts so far, make all parts
abbrev pub invariant-loop-number : goal.invariant-loop-number
invariant-loop-number l =
    highest_first (λ i. l.stem ++ decimal i) l.number (from_low l.parts.items) (drop l.number l.rows)
    ≡ highest_first (λ i. l.stem ++ decimal i) 0 none l.rows
