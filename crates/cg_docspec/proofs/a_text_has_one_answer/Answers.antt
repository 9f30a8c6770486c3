use Rattle.cg_docspec.proofs.Answering.Answers.{one_answer}
use Rattle.cg_docspec.proofs.a_text_has_one_answer.Goals as goal

pub returns : goal.returns
returns c = one_answer
