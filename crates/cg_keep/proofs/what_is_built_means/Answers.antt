use Rattle.cg_keep.proofs.Laws.{built_means}
use Rattle.cg_keep.proofs.what_is_built_means.Goals as goal

-- by the law of what is written of files
pub returns : goal.returns
returns c = built_means c.what_is_written_means.ensures
