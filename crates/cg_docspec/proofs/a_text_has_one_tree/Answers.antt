use Rattle.cg_docspec.proofs.Answering.Answers.{one_tree}
use Rattle.cg_docspec.proofs.a_text_has_one_tree.Goals as goal

pub returns : goal.returns
returns c = one_tree
