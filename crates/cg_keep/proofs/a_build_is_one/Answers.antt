use Rattle.cg_keep.proofs.Laws.{built_breaks_nothing, built_names_differ, built_one}
use Rattle.cg_keep.proofs.Wanted.{wanted_one}
use Rattle.cg_keep.proofs.a_build_is_one.Goals as goal

pub returns-clause-wanted : goal.returns-clause-wanted
returns-clause-wanted c = wanted_one

-- by the law of what is written of files
pub returns-clause-built : goal.returns-clause-built
returns-clause-built c = built_one c.files_are_of_one_build.ensures.build

pub returns-clause-unbroken : goal.returns-clause-unbroken
returns-clause-unbroken c = built_breaks_nothing

pub returns-clause-names : goal.returns-clause-names
returns-clause-names c = built_names_differ
