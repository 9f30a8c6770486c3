use Rattle.std.proofs.Common.{◌≡◌, None, sym, subst}
use Rattle.cg_finding.specs.Violations.{RefusesFirst}
use Rattle.cg_crossbar.specs.Breaks.{BreaksAlone}
use Rattle.cg_gen.specs.Inner.{only_file}
use Rattle.cg_gen.proofs.OneFile.{absent_refused, large_refused}
use Rattle.cg_gen.proofs.Units.{crossbar_file_first}
use Rattle.cg_gen.proofs.tlgen.text_of.Goals as goal

-- no file
pub returns-in-Absent : goal.returns-in-Absent
returns-in-Absent c g given =
    let none : g ≡ None = rw c.in-Absent.is at given in
    subst (λ x. RefusesFirst c.absent_file.result 0 (BreaksAlone (only_file x))) (sym none) (absent_refused BreaksAlone crossbar_file_first _ c.absent_file.ensures)

-- a file above the limit
pub returns-in-Large : goal.returns-in-Large
returns-in-Large c g given =
    let large = rw c.in-Large.is at given in
    subst (λ x. RefusesFirst c.large_file.result 0 (BreaksAlone (only_file x))) (sym large.1) (large_refused BreaksAlone crossbar_file_first _ large.0 large.2 c.large_file.ensures)
