use Rattle.std.proofs.Common.{◌≡◌, ◌++◌, drop, map}
use Rattle.std.specs.List.{filter}
use Rattle.cg_blkread.specs.Interfaces.{is_device}
use Rattle.cg_blkread.proofs.interfaces.devices.Given as goal

-- those found, and those among the interfaces that are left
abbrev pub invariant-loop-interface : goal.invariant-loop-interface
invariant-loop-interface l =
    map (λ t. t.now) l.found.items ++ filter is_device (drop l.interface-index l.interface-items)
    ≡ filter is_device l.interface-items
