use Rattle.std.proofs.lemmas.Result.{IfOk-weaker}
use Rattle.cg_sv.specs.Views.{module_of}
use Rattle.cg_svcheck.proofs.Driving.{all_decide}
use Rattle.cg_svcheck.proofs.judged.is_well_formed.Goals as goal

pub returns : goal.returns
returns c =
    IfOk-weaker c.entries_fit_by.result _ _
    (λ fit is. all_decide (module_of c.args.«module».now) c.is_printable.result c.in_ok-are_names_apart.field-0 c.in_ok-are_driven_well.field-0 fit c.is_printable.ensures c.if-not-is_printable.false
    c.in_ok-are_names_apart.ensures c.if-not-branch.false c.in_ok-are_driven_well.ensures c.if-not-branch-2.false is) c.entries_fit_by.ensures
