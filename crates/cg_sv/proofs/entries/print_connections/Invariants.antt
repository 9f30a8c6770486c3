use Rattle.std.proofs.Common.{◌≡◌, ◌++◌, drop, codes, cond, [], map}
use Rattle.cg_svspec.specs.Layout.{connections_text}
use Rattle.cg_sv.specs.Views.{connection_of}
use Rattle.cg_sv.proofs.entries.print_connections.Given as goal

-- what is printed, and then the connections that are left, are all connections
abbrev pub invariant-loop-connection : goal.invariant-loop-connection
invariant-loop-connection l =
    l.out ++ connections_text (cond l.first [] (codes ",\n")) (map connection_of (drop l.connection-index l.connections))
    ≡ l.fn.out ++ connections_text [] (map connection_of l.connections)
