use Rattle.std.proofs.Common.{None, refl}
use Rattle.cg_files.specs.Files.{BreaksFile}
use Rattle.cg_files.proofs.FirstOnes.{first_absent}
use Rattle.cg_finding.proofs.Stages.{named}
use Rattle.cg_design.specs.Files.{given_file}
use Rattle.cg_design.proofs.file.given_tree.Goals as goal

-- there is no such file
pub returns-in-None : goal.returns-in-None
returns-in-None c = rw c.in-None.is
    (named c.absent_file.result c.args.file (BreaksFile (given_file c.args.file c.args.before None)) _ c.absent_file.ensures (first_absent (given_file c.args.file c.args.before None) refl))
