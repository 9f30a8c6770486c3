use Rattle.std.proofs.Common.{◌≡◌, drop, map}
use Rattle.cg_svbus.specs.TopViewed.{names_of}
use Rattle.cg_topspec.specs.Clashes.{first_clash}
use Rattle.cg_svbus.proofs.top_lists.lists_differ.Given as goal

-- what the lists that are left have is what all have
abbrev pub invariant-loop-list : goal.invariant-loop-list
invariant-loop-list l =
    first_clash (map names_of (drop l.list-index l.lists)) ≡ first_clash (map names_of l.lists)
