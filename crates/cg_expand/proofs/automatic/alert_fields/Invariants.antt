use Rattle.std.proofs.Common.{◌≡◌, ◌++◌, drop}
use Rattle.cg_desc.specs.Items.{alert_fields}
use Rattle.cg_expand.proofs.automatic.alert_fields.Given as goal

-- the fields so far, and those of the alerts that are left, are all
abbrev pub invariant-loop-alert : goal.invariant-loop-alert
invariant-loop-alert l = record {
  bit : l.bit ≡ l.alert-index;
  fields : l.fields ++ alert_fields l.bit (drop l.alert-index l.alerts) ≡ alert_fields 0 l.alerts;
}
