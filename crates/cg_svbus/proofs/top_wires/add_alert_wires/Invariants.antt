use Rattle.std.proofs.Common.{◌≡◌, ◌++◌, drop, map}
use Rattle.cg_sv.specs.Views.{entry_of}
use Rattle.cg_svspec.specs.Tree.{wire}
use Rattle.cg_topspec.specs.Nets.{alert_net}
use Rattle.cg_topspec.specs.Top.{instance_of, block_of}
use Rattle.cg_topspec.specs.TopModule.{alert_wires}
use Rattle.cg_svbus.proofs.top_wires.add_alert_wires.Given as goal

-- the entries so far, and then those of the alerts that are left, are all
abbrev pub invariant-loop-alert : goal.invariant-loop-alert
invariant-loop-alert l =
    map entry_of l.entries ++ map (λ alert. wire 1 (alert_net (instance_of l.top l.inst).name alert)) (drop l.alert-index (block_of l.top l.inst).desc.alerts)
    ≡ map entry_of l.fn.entries ++ alert_wires l.top l.inst
