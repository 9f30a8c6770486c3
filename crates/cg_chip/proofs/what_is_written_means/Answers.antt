use Rattle.cg_chip.proofs.MeaningWhole.{written_means}
use Rattle.cg_chip.proofs.what_is_written_means.Goals as goal

-- by the laws of the top's module, of texts, of modules and of headers
pub returns : goal.returns
returns c = written_means c.few_bits_follow.ensures
    (record {
      come = c.requests_come.ensures;
      select = c.select_means.ensures;
      errors = c.errors_answer.ensures;
      selection = c.a_selection_exists.ensures;
      states = c.states_exist.ensures;
      vectors = c.vectors_hold.ensures;
      connections = c.connections_hold.ensures;
      valuation = c.a_valuation_exists.ensures;
    })
    (record {
      printed = c.printed_text_stands.ensures;
      printable = c.top_module_is_printable.ensures;
      well_formed = c.top_module_is_well_formed.ensures;
      crossbars = c.crossbar_module_means.ensures;
      registers = c.register_module_means.ensures;
      headers = c.block_header_means.ensures;
      top_header = c.top_header_is_meant.ensures;
      meet = c.bases_and_offsets_meet.ensures;
    })
