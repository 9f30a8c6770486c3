use Rattle.cg_space.specs.Inner.Verdicts.{FaultOfAll, WrongRanges}
use Rattle.cg_space.proofs.Checking.{ranges_complete, ranges_sound, judges_as}
use Rattle.cg_space.proofs.checked.check_ranges.Goals as goal

pub returns-in-Ok : goal.returns-in-Ok
returns-in-Ok c =
    judges_as c.first_fault.result (FaultOfAll c.args.top.now c.in-Ok.verdicts) (WrongRanges c.args.top.now) (λ f broken. ranges_sound c.args.top.now c.in-Ok.verdicts c.in-Ok.ensures f broken)
    (λ f broken. ranges_complete c.args.top.now c.in-Ok.verdicts c.in-Ok.ensures f broken) (rw c.as_slice.ensures at c.first_fault.ensures)
