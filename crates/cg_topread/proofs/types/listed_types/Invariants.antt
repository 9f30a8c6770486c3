use Rattle.std.proofs.Common.{◌≡◌, ◌++◌, drop, map}
use Rattle.cg_nodes.specs.Listed.{new_names}
use Rattle.cg_topread.specs.Types.{types_of}
use Rattle.cg_topread.proofs.types.listed_types.Given as goal

-- the types so far and those that the instances that are left use first are all
abbrev pub invariant-loop-inst : goal.invariant-loop-inst
invariant-loop-inst l =
    map (λ k. k.now) l.used.keys ++ new_names (map (λ k. k.now) l.used.keys) (map (λ inst. inst.kind) (drop l.inst-index l.insts)) ≡ types_of l.insts
