-- What a check answers, by what it means to be broken.
use Rattle.std.specs.Prelude.{ℕ, ◌≡◌}
use Rattle.cg_desc.specs.Faults.{Before}
use Rattle.cg_desc.specs.declared.fault.Fault.{Fault}
use Rattle.cg_desc.specs.declared.fault.DescFault.{DescFault}
use Rattle.cg_desc.specs.declared.fault.DescFault.TheVariants as refusal
use Rattle.cg_finding.specs.Finding.{Finding, in_file}

-- the finding is a violation, and as faults of one file none is before it
pub record IsFirstViolation (Violates : Finding → Type 0) (f : Finding) : Type 0 where
  pub violates : Violates f
  pub least : (file : ℕ) (g : Finding) → Violates g → ¬ Before (in_file file g) (in_file file f)

-- the fault is a violation, and none is before it
pub record IsFirstFault (Violates : Fault → Type 0) (fault : Fault) : Type 0 where
  pub violates : Violates fault
  pub least : (other : Fault) → Violates other → ¬ Before other fault

-- a refusal names the first violation, in the file of this number; want of memory says nothing
abbrev pub RefusesFirst : DescFault → ℕ → (Finding → Type 0) → Type 0
RefusesFirst (refusal.Fault fault) file Violates = (f : Finding) × (fault ≡ in_file file f) × IsFirstViolation Violates f
RefusesFirst refusal.Memory file Violates = Unit {0}
