use Rattle.std.proofs.Common.{◌≡◌, drop, map}
use Rattle.cg_sv.specs.Views.{connection_of}
use Rattle.cg_svspec.specs.Value.{connection_at}
use Rattle.cg_svcheck.proofs.forms.connection_at.Given as goal

-- what is left says what all say
abbrev pub invariant-loop-connection : goal.invariant-loop-connection
invariant-loop-connection l = connection_at l.name (map connection_of (drop l.connection-index l.conns)) ≡ connection_at l.name (map connection_of l.conns)
