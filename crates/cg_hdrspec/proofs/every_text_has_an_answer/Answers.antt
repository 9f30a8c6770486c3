use Rattle.cg_hdrspec.specs.Reading.{answer}
use Rattle.cg_hdrspec.proofs.Texts.{answer_is}
use Rattle.cg_hdrspec.proofs.every_text_has_an_answer.Goals as goal

pub returns : goal.returns
returns c = λ text. (answer text, answer_is text)
