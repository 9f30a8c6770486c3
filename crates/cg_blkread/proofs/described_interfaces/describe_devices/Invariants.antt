use Rattle.std.proofs.Common.{◌≡◌, ◌++◌, drop, map}
use Rattle.std.specs.List.{filter}
use Rattle.cg_blkread.specs.Described.{face_desc}
use Rattle.cg_blkread.specs.Interfaces.{is_device}
use Rattle.cg_blkread.proofs.described_interfaces.describe_devices.Given as goal

-- the devices so far and those of the interfaces that are left are all
abbrev pub invariant-loop-interface : goal.invariant-loop-interface
invariant-loop-interface l =
    l.faces ++ map (face_desc l.block) (filter is_device (drop l.interface-index l.interface-items)) ≡ map (face_desc l.block) (filter is_device l.interface-items)
