use Rattle.cg_svspec.proofs.ModulesBack.{stands_for_one_list}
use Rattle.cg_svspec.proofs.text_stands_for_one_list.Goals as goal

pub returns : goal.returns
returns c = stands_for_one_list
