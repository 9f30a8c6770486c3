use Rattle.std.proofs.Common.{option_map}
use Rattle.cg_design.specs.Files.{given_file}
use Rattle.cg_design.proofs.OfFiles.{top_file_first, top_keys_first}
use Rattle.cg_design.proofs.top.read_top.Goals as goal

-- the file has no tree
pub returns-in-Err-clause-finds : goal.returns-in-Err-clause-finds
returns-in-Err-clause-finds c = top_file_first (given_file 0 0 (option_map (λ b. b.now) c.args.given)) c.in-Err.refused c.in-Err.ensures

-- the top breaks a rule
pub returns-in-Err-top-clause-finds : goal.returns-in-Err-top-clause-finds
returns-in-Err-top-clause-finds c =
    top_keys_first (given_file 0 0 (option_map (λ b. b.now) c.args.given)) c.in-Ok.tree c.in-Ok.ensures c.in-Err-top.refused c.in-Err-top.ensures.reads
