use Rattle.std.proofs.Common.{◌≡◌, drop, map}
use Rattle.std.specs.List.{list_all}
use Rattle.cg_sv.specs.Views.{connection_of}
use Rattle.cg_svcheck.specs.Printing.{is_printable_connection}
use Rattle.cg_svcheck.proofs.printing.are_printable_connections.Given as goal

-- what the connections that are left say is what all say
abbrev pub invariant-loop-connection : goal.invariant-loop-connection
invariant-loop-connection l = list_all is_printable_connection (map connection_of (drop l.connection-index l.connections)) ≡ list_all is_printable_connection (map connection_of l.connections)
