use Rattle.std.proofs.Common.{◌≡◌, drop, map}
use Rattle.cg_sv.specs.Views.{connection_of}
use Rattle.cg_svcheck.specs.Fitting.{connections_use_only}
use Rattle.cg_svcheck.proofs.fitting.connections_use_only.Given as goal

-- what is left says what all say
abbrev pub invariant-loop-conn : goal.invariant-loop-conn
invariant-loop-conn g l = connections_use_only (g.N.Nets.known l.nets) (map connection_of (drop l.conn-index l.conns)) ≡ connections_use_only (g.N.Nets.known l.nets) (map connection_of l.conns)
