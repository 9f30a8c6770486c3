use Rattle.cg_docspec.proofs.Answering.Answers.{is_answer}
use Rattle.cg_docspec.proofs.the_machine_answers.Goals as goal

pub returns : goal.returns
returns c = is_answer
