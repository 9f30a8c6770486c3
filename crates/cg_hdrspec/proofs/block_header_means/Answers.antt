use Rattle.cg_hdrspec.proofs.Law.{block_header_means}
use Rattle.cg_hdrspec.proofs.block_header_means.Goals as goal

pub returns : goal.returns
returns c = block_header_means
