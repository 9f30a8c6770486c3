use Rattle.std.proofs.Common.{map, string_bytes}
use Rattle.cg_words.proofs.ExactWords.{reads_found}
use Rattle.cg_words.proofs.reading.read_words.Goals as goal

pub returns : goal.returns
returns c = reads_found (map string_bytes c.args.words.now) c.command_in.result c.command_in.ensures
