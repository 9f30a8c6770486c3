use Rattle.std.proofs.Common.{◌≡◌, drop, map}
use Rattle.cg_svspec.specs.Value.{connection_at}
use Rattle.cg_sv.specs.Views.{connection_of}
use Rattle.cg_sveval.proofs.names.connection_at.Given as goal

-- what is left has the same first one of the name
abbrev pub invariant-loop-conn : goal.invariant-loop-conn
invariant-loop-conn l = connection_at l.name (map connection_of (drop l.conn-index l.conns)) ≡ connection_at l.name (map connection_of l.conns)
