use Rattle.cg_crossbar.proofs.FirstOnes.{ranges_refused}
use Rattle.cg_crossbar.proofs.Ranges.{valid_alone, written_here}
use Rattle.cg_crossbar.proofs.alone.output_of.Goals as goal

pub check-requires : goal.check-requires
check-requires c = valid_alone c.args.top.now c.args.xbar.now c.requires.valid c.requires.alone

-- the ranges do not fit
pub returns-in-Err : goal.returns-in-Err
returns-in-Err c f same is = ranges_refused f c.args.xbar.now c.args.top.now c.in-Err.refusal (λ u. Unit {0}) c.requires.alone is c.in-Err.ensures

pub ranges-requires-clause-valid : goal.ranges-requires-clause-valid
ranges-requires-clause-valid c = valid_alone c.args.top.now c.args.xbar.now c.requires.valid c.requires.alone

-- they are those that are written
pub text_of-requires-clause-written : goal.text_of-requires-clause-written
text_of-requires-clause-written c = written_here c.args.top.now c.args.xbar.now c.in-Ok-ranges.ranges c.requires.alone c.in-Ok-ranges.ensures.are
