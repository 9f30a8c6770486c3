use Rattle.std.proofs.Common.{◌≡◌, ℕ, ◌||◌, List, drop, is_some}
use Rattle.cg_keys.specs.Table.{value_at}
use Rattle.cg_blkread.proofs.SeenKeys.{has}
use Rattle.cg_blkread.proofs.shape.keys_of.Given as goal

-- a key is in the set or that of a member that is left, exactly where it is that of one of all
abbrev pub invariant-loop-member : goal.invariant-loop-member
invariant-loop-member l =
    (key : List ℕ) → (has l.keys.keys key || is_some (value_at key (drop l.member-index l.members))) ≡ is_some (value_at key l.members)
