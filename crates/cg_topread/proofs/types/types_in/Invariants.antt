use Rattle.std.proofs.Common.{◌≡◌, [], drop}
use Rattle.cg_nodes.specs.Listed.{new_names}
use Rattle.cg_topread.specs.Types.{type_in, types_in}
use Rattle.cg_topread.proofs.Uses.{and_left}
use Rattle.cg_topread.proofs.types.types_in.Given as goal

-- the types so far and those that the instances that are left use first are all
abbrev pub invariant-loop-instance : goal.invariant-loop-instance
invariant-loop-instance l = and_left type_in l.types.keys (drop l.instance-index l.instances) ≡ new_names [] (types_in l.instances)
