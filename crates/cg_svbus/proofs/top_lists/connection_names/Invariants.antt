use Rattle.std.proofs.Common.{◌≡◌, ◌++◌, drop, map}
use Rattle.cg_sv.specs.Views.{connection_of}
use Rattle.cg_svspec.specs.WellFormed.{connection_names}
use Rattle.cg_svbus.proofs.top_lists.connection_names.Given as goal

-- the names so far, and then those of the connections that are left, are all
abbrev pub invariant-loop-conn : goal.invariant-loop-conn
invariant-loop-conn l =
    l.names ++ connection_names (map connection_of (drop l.conn-index l.conns)) ≡ connection_names (map connection_of l.conns)
