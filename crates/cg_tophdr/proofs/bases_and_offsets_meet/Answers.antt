use Rattle.cg_tophdr.proofs.Meeting.{bases_and_offsets_meet}
use Rattle.cg_tophdr.proofs.bases_and_offsets_meet.Goals as goal

pub returns : goal.returns
returns c = bases_and_offsets_meet
