use Rattle.std.proofs.Common.{◌≡◌, ◌+◌, ◌-◌, ◌≤◌}
use Rattle.cg_busspec.specs.CrossbarModule.{halvings}
use Rattle.cg_svxbar.proofs.selects.power_of.Given as goal

-- the halvings so far, and then those that are left, are all halvings
abbrev pub invariant-loop-power : goal.invariant-loop-power
invariant-loop-power l = record {
  power : l.power + halvings (32 - l.power) l.left ≡ halvings 32 l.range.size;
  few : l.power ≤ 32;
}

-- each step takes one of 32
abbrev pub decreases-loop-power : goal.decreases-loop-power
decreases-loop-power l = 32 - l.power
