use Rattle.std.proofs.Common.{sym}
use Rattle.cg_space.specs.Inner.Sound.{IsDeviceAt}
use Rattle.cg_space.proofs.Judging.{bad_exact, host_verdict, range_verdict_is, shared_exact}
use Rattle.cg_space.proofs.Tabling.{kept_read}
use Rattle.cg_space.proofs.verdict.range_verdict.Goals as goal

pub returns-then-node_at : goal.returns-then-node_at
returns-then-node_at c = host_verdict c.args.top.now c.args.xbar c.args.node c.node_at.result.now c.node_at.ensures c.if-node_at.true

pub returns : goal.returns
returns c =
    let device : IsDeviceAt c.args.top.now c.args.xbar c.args.node = (c.node_at.result.now, c.node_at.ensures, c.if-node_at.false) in
    let kept = rw (sym c.index-table-node.is) at (kept_read c.args.top.now c.args.xbar c.args.node c.args.table.now c.index-table-node.result c.requires.table device) in
    range_verdict_is c.args.top.now c.args.xbar c.args.node _ _ (bad_exact c.args.top.now c.args.xbar c.args.node c.index-table-node.result c.requires.sound device kept)
    (shared_exact c.args.top.now c.args.xbar c.args.node c.index-table-node.result c.some_host_meets-meets.result c.requires.sound device kept c.some_host_meets-meets.ensures)
