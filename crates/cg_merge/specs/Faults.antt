-- The earlier of two faults, and what a check of several files tells.
use Rattle.std.specs.Prelude.{◌≡◌, ◌⊎◌, ℕ, Option, Some, None}
use Rattle.cg_desc.specs.Faults.{Before}
use Rattle.cg_desc.specs.declared.fault.Fault.{Fault}
use Rattle.cg_finding.specs.Finding.{Finding, in_file}
use Rattle.cg_finding.specs.Violations.{IsFirstFault}

-- the fault that a finding is in a file, if there is one
abbrev pub fault_of : ℕ → Option Finding → Option Fault
fault_of file None = None
fault_of file (Some f) = Some (in_file file f)

-- the first where there is no second or the second is not before it, and else the second
abbrev pub KeepsEarlier : Option Fault → Option Fault → Option Fault → Type 0
KeepsEarlier None second kept = kept ≡ second
KeepsEarlier (Some f) None kept = kept ≡ Some f
KeepsEarlier (Some f) (Some g) kept = (Before g f × (kept ≡ Some g)) ⊎ ((¬ Before g f) × (kept ≡ Some f))

-- the first of all that is broken, or that nothing is
abbrev pub TellsFault : Option Fault → (Fault → Type 0) → Type 0
TellsFault None Broken = (f : Fault) → ¬ Broken f
TellsFault (Some f) Broken = IsFirstFault Broken f
