use Rattle.cg_svspec.proofs.FirstRepeat.{first_repeat_is_first}
use Rattle.cg_svspec.proofs.first_repeat_is_first.Goals as goal

pub returns : goal.returns
returns c = first_repeat_is_first
