use Rattle.std.proofs.Common.{◌≡◌, ◌++◌, drop, map}
use Rattle.cg_sv.specs.Views.{entry_of}
use Rattle.cg_topspec.specs.TopModule.{instance_entry}
use Rattle.cg_svbus.proofs.top_instances.add_instances.Given as goal

-- the entries so far, and then those of the instances that are left, are all
abbrev pub invariant-loop-inst : goal.invariant-loop-inst
invariant-loop-inst l =
    map entry_of l.entries ++ map (instance_entry l.top l.ties) (drop l.inst-index l.insts) ≡ map entry_of l.fn.entries ++ map (instance_entry l.top l.ties) l.insts
