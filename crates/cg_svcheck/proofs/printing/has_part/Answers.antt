use Rattle.cg_svcheck.proofs.FormLemmas.{has_part_where}
use Rattle.cg_svcheck.proofs.printing.has_part.Goals as goal

pub returns : goal.returns
returns c = has_part_where c.args.parts.now c.is_empty.result c.is_empty.ensures
