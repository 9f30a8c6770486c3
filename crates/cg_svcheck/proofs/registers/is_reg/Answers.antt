use Rattle.cg_sv.specs.Views.{module_of}
use Rattle.cg_svcheck.specs.RegisterTests as test
use Rattle.cg_svcheck.proofs.FormLemmas.{decided}
use Rattle.cg_svcheck.proofs.RegistersDecide.{register_decides}
use Rattle.cg_svcheck.proofs.registers.is_reg.Goals as goal

pub returns : goal.returns
returns c =
    decided c.passes.result (test.is_register (module_of c.args.«module».now)) c.passes.ensures (register_decides (module_of c.args.«module».now))
