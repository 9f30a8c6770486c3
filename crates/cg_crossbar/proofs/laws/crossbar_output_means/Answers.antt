use Rattle.cg_crossbar.proofs.Meanings.{output_means, file_means}
use Rattle.cg_crossbar.proofs.laws.crossbar_output_means.Goals as goal

pub returns-clause-ranges : goal.returns-clause-ranges
returns-clause-ranges c = output_means c.printed_text_stands.ensures c.crossbar_module_means.ensures

pub returns-clause-mean : goal.returns-clause-mean
returns-clause-mean c = file_means (output_means c.printed_text_stands.ensures c.crossbar_module_means.ensures)
