use Rattle.cg_space.proofs.Checking.{ranks_fall, ranks_within}
use Rattle.cg_space.proofs.checked.tables_of.Goals as goal

pub tables-requires-clause-within : goal.tables-requires-clause-within
tables-requires-clause-within c =
    rw (c.as_slice.ensures, c.in_ok-ranks.ensures) (ranks_within c.args.top.now c.requires.links.0 c.args.marks.now c.requires.links.1 c.requires.links.2)

pub tables-requires-clause-fall : goal.tables-requires-clause-fall
tables-requires-clause-fall c =
    rw (c.as_slice.ensures, c.in_ok-ranks.ensures) (ranks_fall c.args.top.now c.requires.links.0 c.args.marks.now c.requires.sound c.requires.links.1 c.requires.links.2 c.requires.free)
