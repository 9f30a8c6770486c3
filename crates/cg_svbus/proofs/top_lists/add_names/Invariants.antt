use Rattle.std.proofs.Common.{◌≡◌, ◌++◌, drop}
use Rattle.cg_svbus.proofs.top_lists.add_names.Given as goal

-- the names so far, and then those of the ones that are left, are all
abbrev pub invariant-loop-name : goal.invariant-loop-name
invariant-loop-name l =
    l.names ++ drop l.name-index l.more ≡ l.fn.names ++ l.more
