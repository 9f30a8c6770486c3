use Rattle.cg_chdr.proofs.Loops.{numbers_more}
use Rattle.cg_tophdr.specs.TopHeader.{instance_definitions}
use Rattle.cg_chdr.proofs.definitions.add_instances.Goals as goal

pub loop-index-preserved : goal.loop-index-preserved
loop-index-preserved c =
    numbers_more (instance_definitions c.args.top.now) _ _ _ c.loop-index.index c.in_ok-number_of.field-0 c.loop-index.invariant c.in_ok-number_of.ensures c.in_ok-add_instance.ensures
