use Rattle.std.proofs.Common.{◌≡◌, ◌++◌, drop, map}
use Rattle.std.specs.Prelude.{flat_map}
use Rattle.cg_sv.specs.Views.{entry_of}
use Rattle.cg_topspec.specs.TopModule.{instance_wires}
use Rattle.cg_svbus.proofs.top_wires.add_instances_wires.Given as goal

-- the entries so far, and then those of the instances that are left, are all
abbrev pub invariant-loop-inst : goal.invariant-loop-inst
invariant-loop-inst l =
    map entry_of l.entries ++ flat_map (instance_wires l.top l.pins) (drop l.inst-index l.insts) ≡ map entry_of l.fn.entries ++ flat_map (instance_wires l.top l.pins) l.insts
