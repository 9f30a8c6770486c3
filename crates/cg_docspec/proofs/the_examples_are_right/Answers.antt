use Rattle.cg_docspec.proofs.Examples.{examples_right}
use Rattle.cg_docspec.proofs.the_examples_are_right.Goals as goal

pub returns : goal.returns
returns c = examples_right
