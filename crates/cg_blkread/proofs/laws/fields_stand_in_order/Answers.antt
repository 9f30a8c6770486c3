use Rattle.cg_blkread.proofs.Order.{fields_stand}
use Rattle.cg_blkread.proofs.laws.fields_stand_in_order.Goals as goal

pub returns : goal.returns
returns c = fields_stand
