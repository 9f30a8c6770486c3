use Rattle.std.proofs.Common.{◌≡◌, map, drop}
use Rattle.cg_sv.specs.Views.{module_of}
use Rattle.cg_outputs.specs.Inner.{put_outputs}
use Rattle.cg_block.specs.Unit.{module_output}
use Rattle.cg_block.proofs.outputs.put_modules.Given as goal

abbrev pub invariant-loop-module : goal.invariant-loop-module
invariant-loop-module l =
    put_outputs l.outputs (map module_output (map module_of (drop l.module-index l.modules))) ≡ put_outputs l.fn.outputs (map module_output (map module_of l.modules))
