use Rattle.std.proofs.Common.{◌≡◌, drop, map}
use Rattle.cg_sv.specs.Views.{connection_of}
use Rattle.cg_svcheck.specs.Fitting.{all_have_width}
use Rattle.cg_svcheck.proofs.fitting.all_have_width.Given as goal

-- what is left says what all say
abbrev pub invariant-loop-conn : goal.invariant-loop-conn
invariant-loop-conn g l = all_have_width (g.N.Nets.widths l.nets) (map connection_of (drop l.conn-index l.conns)) ≡ all_have_width (g.N.Nets.widths l.nets) (map connection_of l.conns)
