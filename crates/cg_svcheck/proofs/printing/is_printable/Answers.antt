use Rattle.cg_sv.specs.Views.{module_of}
use Rattle.cg_svcheck.specs.Printing as test
use Rattle.cg_svcheck.proofs.FormLemmas.{decided}
use Rattle.cg_svcheck.proofs.PrintingDecides.{printable_decides}
use Rattle.cg_svcheck.proofs.printing.is_printable.Goals as goal

pub returns : goal.returns
returns c =
    decided c.passes.result (test.is_printable (module_of c.args.«module».now)) c.passes.ensures (printable_decides (module_of c.args.«module».now))
