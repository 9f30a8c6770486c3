use Rattle.cg_block.proofs.Meanings.{outputs_mean}
use Rattle.cg_block.proofs.Differing.{register_texts_differ}
use Rattle.cg_block.proofs.laws.block_outputs_mean.Goals as goal

-- by the laws of all that is written
pub returns-clause-mean : goal.returns-clause-mean
returns-clause-mean c = outputs_mean (record {
  printed = c.printed_text_stands.ensures;
  modules = c.register_module_means.ensures;
  headers = c.block_header_means.ensures;
  completed = record {
    documents = c.documents_are_sayable.ensures;
    reads_back = c.completed_reads_back.ensures;
    same = c.completed_is_same.ensures;
    sound = c.completed_is_sound.ensures;
    apart = c.read_fields_are_apart.ensures;
    laid = c.same_is_laid.ensures;
  };
})

pub returns-clause-differ : goal.returns-clause-differ
returns-clause-differ c = register_texts_differ
