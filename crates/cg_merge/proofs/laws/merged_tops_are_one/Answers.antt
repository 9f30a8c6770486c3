use Rattle.cg_merge.proofs.OneMerge.{merged_once}
use Rattle.cg_merge.proofs.laws.merged_tops_are_one.Goals as goal

pub returns : goal.returns
returns c = merged_once
