use Rattle.cg_jsonspec.proofs.Sayable.{documents_said}
use Rattle.cg_jsonspec.proofs.documents_are_sayable.Goals as goal

pub returns : goal.returns
returns c = documents_said
