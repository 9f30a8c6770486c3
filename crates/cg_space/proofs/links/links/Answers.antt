use Rattle.std.proofs.Common.{◌≡◌, length, arith}
use Rattle.cg_space.proofs.Linking.{links_all, links_more}
use Rattle.cg_space.proofs.links.links.Goals as goal

pub loop-xbar-preserved : goal.loop-xbar-preserved
loop-xbar-preserved c =
    links_more c.args.top.now c.loop-xbar.xbar c.loop-xbar.links _ c.in_ok-nested_crossbars.field-0 c.in_ok-nested_crossbars.ensures c.in_ok-push.ensures.ok c.loop-xbar.invariant

pub returns : goal.returns
returns c =
    let all : c.loop-xbar.xbar ≡ length c.args.top.now.xbars = omega (arith, c.loop-xbar.auto.xbar-end, c.loop-xbar-test.false, c.len-xbar-end.ensures) in
    links_all c.args.top.now c.loop-xbar.links (rw all at c.loop-xbar.invariant)
