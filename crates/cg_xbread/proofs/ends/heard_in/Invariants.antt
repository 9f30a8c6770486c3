use Rattle.std.proofs.Common.{◌≡◌, ℕ, ◌||◌, List, map}
use Rattle.std.specs.List.{flat_map}
use Rattle.cg_xbread.specs.Listed.{host_elements}
use Rattle.cg_xbread.proofs.Heard.{left, lists_name}
use Rattle.cg_keys.proofs.SeenNames.{has}
use Rattle.cg_xbread.proofs.ends.heard_in.Given as goal

-- a name is in the set or listed by a connection that is left, exactly where one of all lists it
abbrev pub invariant-loop-connection : goal.invariant-loop-connection
invariant-loop-connection l =
    (name : List ℕ) → (has l.names.keys name || lists_name (left (host_elements l.nodes) l.connections l.connection-index) name)
    ≡ lists_name (flat_map (host_elements l.nodes) (map (λ m. m.now) l.connections)) name
