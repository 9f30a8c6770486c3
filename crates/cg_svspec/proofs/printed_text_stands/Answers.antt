use Rattle.cg_svspec.proofs.PrintedModules.{printed_stands}
use Rattle.cg_svspec.proofs.printed_text_stands.Goals as goal

pub returns : goal.returns
returns c = printed_stands
