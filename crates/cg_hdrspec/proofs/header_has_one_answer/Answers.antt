use Rattle.cg_hdrspec.proofs.Texts.{one_answer}
use Rattle.cg_hdrspec.proofs.header_has_one_answer.Goals as goal

pub returns : goal.returns
returns c = one_answer
