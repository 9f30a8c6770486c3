use Rattle.std.proofs.Common.{map, string_bytes}
use Rattle.clap.specs.Words.{app_of}
use Rattle.cg_words.proofs.Taken.{free_simple, refused}
use Rattle.cg_words.proofs.reading.matches_by.Goals as goal

pub returns-in-Ok-clause-rows : goal.returns-in-Ok-clause-rows
returns-in-Ok-clause-rows c = (c.in-Ok.ensures.matches (free_simple (app_of c.args.command) c.requires)).0

pub returns-in-Err-clause-refused : goal.returns-in-Err-clause-refused
returns-in-Err-clause-refused c = λ is.
    refused (app_of c.args.command) (map string_bytes c.args.words.now) c.in-Err.error c.requires c.in-Err.ensures.kinds (c.fault_by.ensures.refused is)
