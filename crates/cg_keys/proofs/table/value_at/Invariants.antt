use Rattle.std.proofs.Common.{◌≡◌, drop}
use Rattle.cg_keys.specs.Table.{value_at}
use Rattle.cg_keys.proofs.table.value_at.Given as goal

-- the value is among the members that are left
abbrev pub invariant-loop-member : goal.invariant-loop-member
invariant-loop-member l = value_at l.key (drop l.member-index l.members) ≡ value_at l.key l.members
