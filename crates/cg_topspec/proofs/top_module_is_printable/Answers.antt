use Rattle.cg_topspec.proofs.PrintedTop.{top_module_is_printable}
use Rattle.cg_topspec.proofs.top_module_is_printable.Goals as goal

pub returns : goal.returns
returns c = top_module_is_printable
