use Rattle.std.proofs.Common.{◌≡◌, length, arith}
use Rattle.cg_space.specs.Inner.Verdicts.{AreVerdicts, IsCircleVerdict}
use Rattle.cg_space.proofs.Numbering.{all_verdicts, none_below, one_below}
use Rattle.cg_space.proofs.verdicts.circles.Goals as goal

pub loop-xbar-init : goal.loop-xbar-init
loop-xbar-init c = rw c.new-all.ensures (none_below (AreVerdicts c.args.top.now (IsCircleVerdict c.args.top.now)))

pub loop-xbar-preserved : goal.loop-xbar-preserved
loop-xbar-preserved c =
    one_below (AreVerdicts c.args.top.now (IsCircleVerdict c.args.top.now)) c.loop-xbar.xbar c.loop-xbar.all _ c.in_ok-circles_in.field-0 c.in_ok-circles_in.ensures c.in_ok-push.ensures.ok c.loop-xbar.invariant

pub returns : goal.returns
returns c =
    let all : c.loop-xbar.xbar ≡ length c.args.top.now.xbars = omega (arith, c.loop-xbar.auto.xbar-end, c.loop-xbar-test.false, c.len-xbar-end.ensures) in
    all_verdicts c.args.top.now (IsCircleVerdict c.args.top.now) c.loop-xbar.all (rw all at c.loop-xbar.invariant)
