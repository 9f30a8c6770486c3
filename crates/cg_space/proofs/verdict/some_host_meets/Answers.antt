use Rattle.std.proofs.Common.{◌≡◌, arith}
use Rattle.std.proofs.lemmas.Bool.{false≢true}
use Rattle.cg_space.proofs.Judging.{no_host_all, no_host_more}
use Rattle.cg_space.proofs.verdict.some_host_meets.Goals as goal

pub host_meets-requires-clause-there : goal.host_meets-requires-clause-there
host_meets-requires-clause-there c = (c.node_count-host-end.ensures.nodes c.loop-host.host).0 c.loop-host-test.true

pub loop-host-preserved : goal.loop-host-preserved
loop-host-preserved c =
    no_host_more c.args.top.now c.args.xbar c.args.node c.loop-host.host (λ meets. false≢true (c.if-host_meets.ensures.1 meets)) c.loop-host.invariant

pub returns : goal.returns
returns c =
    let all : c.loop-host.host ≡ c.node_count-host-end.result = omega (arith, c.loop-host.auto.host-end, c.loop-host-test.false) in (
      λ h. absurd (false≢true h),
      λ some. absurd (no_host_all c.args.top.now c.args.xbar c.args.node c.node_count-host-end.result c.node_count-host-end.ensures.nodes (rw all at c.loop-host.invariant) some),
    )
