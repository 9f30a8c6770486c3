use Rattle.std.proofs.Common.{◌≡◌, ◌<◌, refl, length, arith}
use Rattle.std.proofs.lemmas.Option.{slice_get_read}
use Rattle.cg_space.specs.Inner.Verdicts.{FaultBelow, IsFirstIfAny}
use Rattle.cg_space.proofs.Telling.{first_more}
use Rattle.cg_space.proofs.told.first_fault.Goals as goal

pub loop-xbar-preserved : goal.loop-xbar-preserved
loop-xbar-preserved c =
    let there : c.loop-xbar.xbar < length c.args.verdicts.now = omega (arith, c.requires.all.count, c.loop-xbar-test.true, c.len-xbar-end.ensures) in
    first_more c.args.top.now c.args.verdicts.now c.loop-xbar.xbar c.index-verdicts-xbar.result c.loop-xbar.first c.in-Ok.fault c.earlier_fault-first.result
    (slice_get_read c.args.verdicts.now (length c.args.verdicts.now) c.loop-xbar.xbar c.index-verdicts-xbar.result refl there c.index-verdicts-xbar.is)
    c.earlier_fault-first.ensures c.loop-xbar.invariant (rw c.as_slice.ensures at c.in-Ok.ensures)

pub returns-in-Some : goal.returns-in-Some
returns-in-Some c =
    let all : c.loop-xbar.xbar ≡ length c.args.top.now.xbars = omega (arith, c.loop-xbar.auto.xbar-end, c.loop-xbar-test.false, c.len-xbar-end.ensures) in
    let first : IsFirstIfAny (FaultBelow c.args.top.now c.args.verdicts.now c.loop-xbar.xbar) c.loop-xbar.first = c.loop-xbar.invariant in
    rw (c.in-Some.is, all) at first

pub returns-in-None : goal.returns-in-None
returns-in-None c =
    let all : c.loop-xbar.xbar ≡ length c.args.top.now.xbars = omega (arith, c.loop-xbar.auto.xbar-end, c.loop-xbar-test.false, c.len-xbar-end.ensures) in
    let first : IsFirstIfAny (FaultBelow c.args.top.now c.args.verdicts.now c.loop-xbar.xbar) c.loop-xbar.first = c.loop-xbar.invariant in
    rw (c.in-None.is, all) at first
