use Rattle.std.proofs.Common.{◌≡◌, ◌++◌, drop, map}
use Rattle.cg_merge.specs.Kinds.{number_of}
use Rattle.cg_merge.proofs.kinds.kinds_of.Given as goal

-- the numbers so far and those of the instances that are left are all
abbrev pub invariant-loop-inst : goal.invariant-loop-inst
invariant-loop-inst l = l.kinds ++ map (λ inst. number_of l.blocks inst.kind) (drop l.inst-index l.insts) ≡ map (λ inst. number_of l.blocks inst.kind) l.insts
