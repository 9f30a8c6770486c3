use Rattle.std.proofs.Common.{◌≡◌, ◌++◌, drop, map}
use Rattle.cg_keys.specs.Lists.{first_members, first_members_after}
use Rattle.cg_keys.proofs.firsts.first_members.Given as goal

-- the members so far, and those of the members that are left, behind the keys seen
abbrev pub invariant-loop-member : goal.invariant-loop-member
invariant-loop-member l =
    map (λ m. m.now) l.firsts.items ++ first_members_after (map (λ s. s.now) l.seen.keys) (drop l.member-index l.members)
    ≡ first_members l.members
