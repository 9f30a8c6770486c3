use Rattle.cg_space.proofs.Merged.{is_sound}
use Rattle.cg_space.proofs.Ranged.{tables_ranged}
use Rattle.cg_space.proofs.map.rows.Goals as goal

pub all_rows-requires-clause-sound : goal.all_rows-requires-clause-sound
all_rows-requires-clause-sound c = is_sound c.args.top.now c.requires

pub all_rows-requires-clause-ranged : goal.all_rows-requires-clause-ranged
all_rows-requires-clause-ranged c = tables_ranged c.args.top.now c.in-Ok._tables c.in-Ok.ensures.0 c.in-Ok.ensures.1
