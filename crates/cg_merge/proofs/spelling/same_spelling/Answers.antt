use Rattle.std.proofs.Common.{◌∙◌}
use Rattle.cg_merge.proofs.Spellings.{same_is_left}
use Rattle.cg_merge.proofs.spelling.same_spelling.Goals as goal

pub returns : goal.returns
returns c = c.is_left.ensures ∙ same_is_left c.args.name.now c.args.other.now
