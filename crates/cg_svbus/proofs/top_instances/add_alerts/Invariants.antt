use Rattle.std.proofs.Common.{◌≡◌, ◌++◌, drop, map}
use Rattle.cg_sv.specs.Views.{connection_of}
use Rattle.cg_topspec.specs.Top.{instance_of, block_of}
use Rattle.cg_topspec.specs.TopModule.{alert_connection}
use Rattle.cg_svbus.proofs.top_instances.add_alerts.Given as goal

-- the connections so far, and then those of the alerts that are left, are all
abbrev pub invariant-loop-alert : goal.invariant-loop-alert
invariant-loop-alert l =
    map connection_of l.conns ++ map (alert_connection (instance_of l.top l.inst).name) (drop l.alert-index (block_of l.top l.inst).desc.alerts)
    ≡ map connection_of l.fn.conns ++ map (alert_connection (instance_of l.top l.inst).name) (block_of l.top l.inst).desc.alerts
