use Rattle.cg_session.proofs.Splits.{cut_is}
use Rattle.cg_session.proofs.pieces.cut.Goals as goal

pub returns : goal.returns
returns c = cut_is c.args.separator c.args.text.now c.split_once.result c.split_once.ensures.cases c.requires
