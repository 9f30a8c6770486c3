use Rattle.cg_design.proofs.Once.{one_design, one_merged, one_top}
use Rattle.cg_design.proofs.Unbroken.{merged_breaks_nothing}
use Rattle.cg_design.proofs.files_are_of_one_top.Goals as goal

pub returns-clause-top : goal.returns-clause-top
returns-clause-top c = one_top

pub returns-clause-design : goal.returns-clause-design
returns-clause-design c = one_design

pub returns-clause-merged : goal.returns-clause-merged
returns-clause-merged c = one_merged

pub returns-clause-unbroken : goal.returns-clause-unbroken
returns-clause-unbroken c = merged_breaks_nothing
