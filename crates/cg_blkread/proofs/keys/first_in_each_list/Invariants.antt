use Rattle.std.proofs.Common.{◌≡◌, drop, map}
use Rattle.std.specs.List.{flat_map}
use Rattle.cg_finding.specs.Finding.{earlier, first_of}
use Rattle.cg_finding.specs.Found.{sees}
use Rattle.cg_blkread.specs.Keys.{entry_list_faults}
use Rattle.cg_blkread.specs.Views.{list_of}
use Rattle.cg_blkread.proofs.keys.first_in_each_list.Given as goal

-- what was found and what is wrong in the lists that are left have the first of all
abbrev pub invariant-loop-list : goal.invariant-loop-list
invariant-loop-list l =
    earlier (sees l.first) (first_of (flat_map entry_list_faults (map list_of (drop l.list-index l.lists))))
    ≡ first_of (flat_map entry_list_faults (map list_of l.lists))
