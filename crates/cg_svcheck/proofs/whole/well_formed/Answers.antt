use Rattle.cg_sv.specs.Views.{module_of}
use Rattle.cg_svcheck.proofs.WholeDecides.{others_decide}
use Rattle.cg_svcheck.proofs.whole.well_formed.Goals as goal

pub returns-then-is_printable : goal.returns-then-is_printable
returns-then-is_printable c =
    others_decide (module_of c.args.«module».now) c.is_printable.result c.passes.result c.is_printable.ensures c.if-is_printable.true c.passes.ensures
