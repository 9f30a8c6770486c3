use Rattle.cg_files.specs.Files.{some_file}
use Rattle.cg_crossbar.proofs.FirstOnes.{description_first}
use Rattle.cg_crossbar.proofs.alone.read_alone.Goals as goal

-- the file describes no crossbar
pub returns-in-Err : goal.returns-in-Err
returns-in-Err c = description_first (some_file c.args.file c.args.before c.args.bytes.now) c.in-Err.refusal c.in-Err.ensures.reads
