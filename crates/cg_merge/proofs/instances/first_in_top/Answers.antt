use Rattle.cg_merge.proofs.InstanceRules.{tells_top}
use Rattle.cg_merge.proofs.instances.first_in_top.Goals as goal

pub returns : goal.returns
returns c =
    rw (c.earlier_of-2.ensures, c.earlier_of.ensures)
    (tells_top c.args.top.now c.first_in_spaces.ensures c.first_in_uses.ensures c.first_in_instances-insts.ensures)
