use Rattle.cg_regspec.proofs.RunsAre.{runs_are_the_blocks}
use Rattle.cg_regspec.proofs.runs_are_the_blocks.Goals as goal

pub returns : goal.returns
returns c = runs_are_the_blocks
