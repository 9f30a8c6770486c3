use Rattle.std.proofs.Common.{ℕ, List, ap}
use Rattle.cg_desc.specs.declared.fault.DescFault.TheVariants.{Fault}
use Rattle.cg_finding.specs.Finding.{in_file}
use Rattle.cg_finding.specs.Found.{seen}
use Rattle.cg_finding.proofs.Firsts.{names_first}
use Rattle.cg_finding.proofs.found.refusal.Goals as goal

pub returns-in-Ok-clause-refuses : goal.returns-in-Ok-clause-refuses
returns-in-Ok-clause-refuses c fs first =
    names_first (Fault (record (in_file c.args.file (seen c.args.found)) { name = c.in-Ok.name })) c.args.file (seen c.args.found) fs
    (ap (λ (name : List ℕ). record (in_file c.args.file (seen c.args.found)) { name = name }) c.in-Ok.ensures) first
