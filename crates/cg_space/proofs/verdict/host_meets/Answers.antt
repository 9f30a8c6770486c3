use Rattle.cg_space.proofs.Tabling.{to_devices}
use Rattle.cg_space.proofs.verdict.host_meets.Goals as goal

pub meets_earlier-requires-clause-devices : goal.meets_earlier-requires-clause-devices
meets_earlier-requires-clause-devices c =
    rw c.as_slice-2.ensures (to_devices c.args.top.now c.args.xbar c.args.host c.node_at-host.result.now c.requires.sound c.node_at-host.ensures c.if-not-host.false)
