use Rattle.cg_blkread.proofs.Facts.Listed.{listed_violates, violates_listed}
use Rattle.cg_blkread.proofs.laws.violations_are_listed.Goals as goal

pub returns : goal.returns
returns c = λ t f. (violates_listed t f, listed_violates t f)
