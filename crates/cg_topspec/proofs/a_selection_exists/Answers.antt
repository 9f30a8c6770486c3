use Rattle.cg_topspec.proofs.Selections.{a_selection_exists}
use Rattle.cg_topspec.proofs.a_selection_exists.Goals as goal

pub returns : goal.returns
returns c = a_selection_exists
