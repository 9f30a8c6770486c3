use Rattle.std.proofs.Common.{◌≡◌, ◌++◌, ℕ, List, drop, map}
use Rattle.cg_svspec.specs.WellFormed.{driven_by_connections}
use Rattle.cg_sv.specs.Views.{connection_of}
use Rattle.cg_svcheck.specs.Lookups.{Holds}
use Rattle.cg_svcheck.proofs.lists.add_connected.Given as goal

-- the names so far, and then those of the connections that are left, are all
abbrev pub invariant-loop-conn : goal.invariant-loop-conn
invariant-loop-conn l =
    (ins : List (List ℕ)) → Holds l.inputs ins → map (λ s. s.now) l.names.items ++ driven_by_connections ins l.«module» (map connection_of (drop l.conn-index l.conns))
    ≡ map (λ s. s.now) l.fn.names.items ++ driven_by_connections ins l.«module» (map connection_of l.conns)
