use Rattle.std.proofs.Common.{◌≡◌, ◌++◌, drop, map}
use Rattle.cg_sv.specs.Views.{connection_of}
use Rattle.cg_topspec.specs.Top.{block_of}
use Rattle.cg_topspec.specs.TopModule.{host_connections}
use Rattle.cg_svbus.proofs.top_faces.add_host_faces.Given as goal

-- the connections so far, and then those of the interfaces that are left, are all
abbrev pub invariant-loop-number : goal.invariant-loop-number
invariant-loop-number l =
    map connection_of l.conns ++ host_connections l.top l.inst l.number (drop l.number (block_of l.top l.inst).desc.hosts)
    ≡ map connection_of l.fn.conns ++ host_connections l.top l.inst 0 (block_of l.top l.inst).desc.hosts
