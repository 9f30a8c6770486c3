use Rattle.cg_svspec.specs.Printable.{IsPrintable}
use Rattle.cg_sv.specs.Views.{module_of}
use Rattle.cg_block.proofs.Loops.{one_of, one_put}
use Rattle.cg_block.proofs.outputs.put_modules.Goals as goal

-- each module can be printed
pub module_output-requires : goal.module_output-requires
module_output-requires c = one_of IsPrintable module_of c.args.modules.now c.loop-module.module-index _ c.requires c.loop-module-test.true c.module-item.is

-- and is put in its place
pub loop-module-preserved : goal.loop-module-preserved
loop-module-preserved c =
    one_put c.args.modules.now c.loop-module.module-index c.module-item.result _ _ _ _ c.loop-module-test.true c.module-item.is c.in_ok-module_output.ensures c.in_ok-put_by_name.ensures.ok c.loop-module.invariant
