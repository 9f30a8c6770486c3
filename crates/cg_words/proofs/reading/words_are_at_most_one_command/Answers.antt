use Rattle.cg_words.proofs.ExactWords.{one_command}
use Rattle.cg_words.proofs.reading.words_are_at_most_one_command.Goals as goal

pub returns : goal.returns
returns c = one_command
