use Rattle.cg_tophdr.proofs.Law.{top_header_is_meant}
use Rattle.cg_tophdr.proofs.top_header_is_meant.Goals as goal

pub returns : goal.returns
returns c = top_header_is_meant
