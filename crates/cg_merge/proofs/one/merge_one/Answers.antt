use Rattle.std.proofs.Common.{refl}
use Rattle.cg_desc.specs.Merged.{of_crossbar}
use Rattle.cg_merge.proofs.one.merge_one.Goals as goal

pub returns-clause-alone : goal.returns-clause-alone
returns-clause-alone c =
    rw (c.empty_top-top.ensures, c.in_ok-push-2.ensures.ok, c.new-xbars.ensures, c.in_ok-push.ensures.ok, c.new-ends.ensures, c.in_ok-all_outside.ensures, c.as_slice.ensures, c.new.ensures, c.new-2.ensures)
    refl

pub returns-clause-valid : goal.returns-clause-valid
returns-clause-valid c =
    of_crossbar c.args.xbar c.requires
    (rw (c.empty_top-top.ensures, c.in_ok-push-2.ensures.ok, c.new-xbars.ensures, c.in_ok-push.ensures.ok, c.new-ends.ensures, c.in_ok-all_outside.ensures, c.as_slice.ensures, c.new.ensures, c.new-2.ensures)
    refl)
