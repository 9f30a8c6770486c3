use Rattle.std.proofs.Common.{◌≡◌, map}
use Rattle.cg_blkread.specs.Interfaces.{has_same_names}
use Rattle.cg_blkread.proofs.NameSets.{left, meets}
use Rattle.cg_blkread.proofs.interfaces.has_same_names.Given as goal

-- the interfaces that are left have two of one name, or one of a name seen, exactly where all have two of one
abbrev pub invariant-loop-interface : goal.invariant-loop-interface
invariant-loop-interface l =
    meets l.seen.keys l.has_nameless (left l.interfaces l.interface-index) ≡ has_same_names (map (λ t. t.now) l.interfaces)
