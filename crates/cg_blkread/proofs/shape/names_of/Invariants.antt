use Rattle.std.proofs.Common.{◌≡◌, ℕ, ◌||◌, List, map}
use Rattle.cg_blkread.specs.Interfaces.{names_device}
use Rattle.cg_blkread.proofs.NameSets.{left}
use Rattle.cg_blkread.proofs.SeenKeys.{has}
use Rattle.cg_blkread.proofs.shape.names_of.Given as goal

-- a name is in the set or that of an interface that is left, exactly where it is that of one of all
abbrev pub invariant-loop-interface : goal.invariant-loop-interface
invariant-loop-interface l =
    (name : List ℕ) → (has l.names.keys name || names_device (left l.interfaces l.interface-index) name)
    ≡ names_device (map (λ t. t.now) l.interfaces) name
