use Rattle.std.proofs.Common.{◌≡◌, ◌++◌, drop, map}
use Rattle.cg_blkread.specs.Interfaces.{first_members, first_members_after}
use Rattle.cg_blkread.specs.Views.{list_of, member_list}
use Rattle.cg_blkread.proofs.entry_lists.lists_of.Given as goal

-- the lists so far, and those of the members that are left, behind the keys seen
abbrev pub invariant-loop-member : goal.invariant-loop-member
invariant-loop-member l =
    map list_of l.lists.items ++ map member_list (first_members_after (map (λ s. s.now) l.seen.keys) (drop l.member-index l.members))
    ≡ map member_list (first_members l.members)
