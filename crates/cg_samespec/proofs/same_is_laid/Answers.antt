use Rattle.cg_samespec.proofs.Law.{same_is_laid}
use Rattle.cg_samespec.proofs.same_is_laid.Goals as goal

pub returns : goal.returns
returns c = same_is_laid
