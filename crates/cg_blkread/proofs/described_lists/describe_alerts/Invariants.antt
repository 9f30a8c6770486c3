use Rattle.std.proofs.Common.{◌≡◌, ◌++◌, drop, map}
use Rattle.cg_blkread.specs.Described.{alert_desc}
use Rattle.cg_blkread.proofs.described_lists.describe_alerts.Given as goal

-- the alerts so far and those of the items that are left are all
abbrev pub invariant-loop-item : goal.invariant-loop-item
invariant-loop-item l = l.alerts ++ map alert_desc (drop l.item-index l.items) ≡ map alert_desc l.items
