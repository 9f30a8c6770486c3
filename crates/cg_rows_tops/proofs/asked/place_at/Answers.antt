use Rattle.cg_rows_tops.proofs.Finding.{rows_are_something}
use Rattle.cg_rows_tops.proofs.asked.place_at.Goals as goal

pub find-requires : goal.find-requires
find-requires c = rows_are_something _ _ c.requires
