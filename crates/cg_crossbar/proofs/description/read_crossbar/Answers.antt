use Rattle.cg_files.specs.Files.{some_file}
use Rattle.cg_crossbar.proofs.FirstOnes.{file_first, described}
use Rattle.cg_crossbar.proofs.description.read_crossbar.Goals as goal

-- the file has a tree: what it describes, or the first that it breaks of a crossbar's rules
pub returns-in-Ok-clause-reads : goal.returns-in-Ok-clause-reads
returns-in-Ok-clause-reads c = described (some_file c.args.file c.args.before c.args.bytes.now) c.in-Ok.tree c.xbar.result c.in-Ok.ensures c.xbar.ensures.reads

-- it has none
pub returns-in-Err-clause-reads : goal.returns-in-Err-clause-reads
returns-in-Err-clause-reads c = file_first (some_file c.args.file c.args.before c.args.bytes.now) c.in-Err.refusal c.in-Err.ensures
