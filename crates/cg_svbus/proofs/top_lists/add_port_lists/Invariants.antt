use Rattle.std.proofs.Common.{◌≡◌, ◌++◌, drop, map}
use Rattle.cg_svbus.specs.TopViewed.{names_of}
use Rattle.cg_svspec.specs.WellFormed.{connection_names}
use Rattle.cg_topspec.specs.TopModule.{instance_connections}
use Rattle.cg_svbus.proofs.top_lists.add_port_lists.Given as goal

-- the lists so far, and then those of the instances that are left, are all
abbrev pub invariant-loop-inst : goal.invariant-loop-inst
invariant-loop-inst l =
    map names_of l.lists ++ map (λ i. connection_names (instance_connections l.top l.ties i)) (drop l.inst-index l.insts)
    ≡ map names_of l.fn.lists ++ map (λ i. connection_names (instance_connections l.top l.ties i)) l.insts
