use Rattle.cg_merge.proofs.TopRules.{tells_unlisted}
use Rattle.cg_merge.proofs.top_rules.first_unlisted.Goals as goal

pub returns : goal.returns
returns c =
    rw (c.when.ensures, c.bad_space.ensures, c.has_space.ensures, c.as_slice.ensures)
    (tells_unlisted c.args.top.now.top c.args.at c.args.space.now)
