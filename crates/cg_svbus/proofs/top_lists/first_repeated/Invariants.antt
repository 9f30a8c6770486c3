use Rattle.std.proofs.Common.{◌≡◌, ◌++◌, drop, map}
use Rattle.cg_svbus.proofs.top_lists.first_repeated.Given as goal

-- the names so far, and then those of the list that are left, are all
abbrev pub invariant-loop-name : goal.invariant-loop-name
invariant-loop-name l =
    map (λ s. s.now) l.names.items ++ drop l.name-index l.list.names ≡ l.list.names
