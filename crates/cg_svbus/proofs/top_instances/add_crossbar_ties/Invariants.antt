use Rattle.std.proofs.Common.{◌≡◌, ◌++◌, drop, map}
use Rattle.std.specs.Prelude.{filter}
use Rattle.cg_sv.specs.Views.{connection_of}
use Rattle.cg_topspec.specs.TopModule.{is_listed, crossbar_clock, crossbar_ties}
use Rattle.cg_svbus.proofs.top_instances.add_crossbar_ties.Given as goal

-- the connections so far, and then those of the ties that are left, are all
abbrev pub invariant-loop-tie : goal.invariant-loop-tie
invariant-loop-tie l =
    map connection_of l.conns ++ map crossbar_clock (filter (λ t. is_listed l.xbar t.owner) (drop l.tie-index l.ties)) ≡ map connection_of l.fn.conns ++ crossbar_ties l.ties l.xbar
