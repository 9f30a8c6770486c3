use Rattle.std.proofs.Common.{◌≡◌, drop, map}
use Rattle.std.specs.List.{list_all}
use Rattle.cg_sv.specs.Views.{connection_of}
use Rattle.cg_svcheck.specs.Fitting.{is_connected_once}
use Rattle.cg_svcheck.proofs.fitting.are_named_once.Given as goal

-- what is left says what all say
abbrev pub invariant-loop-conn : goal.invariant-loop-conn
invariant-loop-conn l = list_all (is_connected_once (map connection_of l.all)) (map connection_of (drop l.conn-index l.conns)) ≡ list_all (is_connected_once (map connection_of l.all)) (map connection_of l.conns)
