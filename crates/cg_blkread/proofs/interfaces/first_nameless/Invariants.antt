use Rattle.std.proofs.Common.{◌≡◌, drop, map}
use Rattle.std.specs.List.{flat_map}
use Rattle.cg_finding.specs.Finding.{earlier, first_of}
use Rattle.cg_finding.specs.Found.{sees}
use Rattle.cg_blkread.proofs.NameSets.{nameless}
use Rattle.cg_blkread.proofs.interfaces.first_nameless.Given as goal

-- what was found and what the interfaces that are left break have the first of all
abbrev pub invariant-loop-device : goal.invariant-loop-device
invariant-loop-device l =
    earlier (sees l.first) (first_of (flat_map nameless (map (λ t. t.now) (drop l.device-index l.device_faces))))
    ≡ first_of (flat_map nameless (map (λ t. t.now) l.device_faces))
