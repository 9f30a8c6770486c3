use Rattle.std.proofs.Common.{sym, get_or}
use Rattle.std.proofs.lemmas.Option.{slice_get-get_or}
use Rattle.cg_desc.specs.declared.fault.DescFault.TheVariants as refusal
use Rattle.cg_finding.specs.Found.{seen}
use Rattle.cg_finding.proofs.Told.{refuses_first}
use Rattle.cg_space.proofs.Telling.{first_in_file, no_fault}
use Rattle.cg_space.proofs.told.fault_of_crossbar.Goals as goal

pub returns-in_default : goal.returns-in_default
returns-in_default c = no_fault c.args.top.now c.args.xbar c.args.verdicts.now c.in_default.ensures

pub returns-in-Fault : goal.returns-in-Fault
returns-in-Fault c =
    let told = c.in-Some.ensures in
    let refuses = refuses_first (refusal.Fault c.in-Fault.fault) (get_or c.as_slice.result.now c.args.xbar c.index-as_slice-xbar.result).file (seen c.in-Some.found) told
    (c.in-Fault.ensures.refuses told.faults (sym told.first)) in
    first_in_file c.args.top.now c.args.xbar (get_or c.args.top.now.xbars c.args.xbar c.index-as_slice-xbar.result) c.args.verdicts.now c.in-Fault.fault
    (slice_get-get_or c.args.top.now.xbars c.args.xbar c.index-as_slice-xbar.result c.requires.there) (rw c.as_slice.ensures at refuses)
