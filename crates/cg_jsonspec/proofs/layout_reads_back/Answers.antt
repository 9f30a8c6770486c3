use Rattle.cg_jsonspec.proofs.Law.{reads_back}
use Rattle.cg_jsonspec.proofs.layout_reads_back.Goals as goal

pub returns : goal.returns
returns c = reads_back
