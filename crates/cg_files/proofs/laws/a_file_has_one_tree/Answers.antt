use Rattle.cg_files.proofs.OneTree.{same_tree, unbroken}
use Rattle.cg_files.proofs.laws.a_file_has_one_tree.Goals as goal

pub returns-clause-one : goal.returns-clause-one
returns-clause-one c = same_tree

pub returns-clause-unbroken : goal.returns-clause-unbroken
returns-clause-unbroken c = unbroken
