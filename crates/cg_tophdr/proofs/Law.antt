-- The law of a top's header.
use Rattle.cg_hdrspec.proofs.Lines.{whole_is_header}
use Rattle.cg_hdrspec.specs.Whole.{whole_constants}
use Rattle.cg_svspec.proofs.NamesLemmas.{none_repeats}
use Rattle.cg_tophdr.proofs.Constants.{all_good, each_means, each_there}
use Rattle.cg_tophdr.proofs.Instances.{top_word}
use Rattle.cg_tophdr.proofs.NamesAreWords.{guard_word}
use Rattle.cg_tophdr.specs.Laws.{TopHeaderIsMeant}
use Rattle.cg_tophdr.specs.TopHeader.{guard_of, top_definitions, top_header_names, top_header_text}

-- The header of a merged top, in which no name repeats, agrees with the top.
pub top_header_is_meant : TopHeaderIsMeant
unfolding top_header_text
top_header_is_meant m numbers pins merged are at fit none = record {
  constants = whole_constants (top_definitions m numbers pins);
  is_header = whole_is_header (guard_of m.top.name) (top_definitions m numbers pins) (guard_word m.top.name (top_word m merged)) (all_good m numbers pins merged are at fit);
  members = λ c. (each_means m numbers pins merged are at fit c, each_there m numbers pins merged c);
  differ = none_repeats (top_header_names m numbers pins) none;
}
