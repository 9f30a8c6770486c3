use Rattle.cg_topspec.proofs.FewBits.{few_bits_follow}
use Rattle.cg_topspec.proofs.few_bits_follow.Goals as goal

pub returns : goal.returns
returns c = few_bits_follow
