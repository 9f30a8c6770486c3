-- Tops that have too many interrupts or alerts.
use Rattle.std.specs.Prelude.{ℕ, ◌<◌, ◌≤◌, List, length, Result, Ok, Err}
use Rattle.cg_desc.specs.Ends.{InstanceIs}
use Rattle.cg_desc.specs.Merged.{design_of}
use Rattle.cg_desc.specs.declared.fault.DescFault.{DescFault}
use Rattle.cg_desc.specs.declared.fault.DescFault.TheVariants as refusal
use Rattle.cg_desc.specs.declared.fault.Fault.{Fault}
use Rattle.cg_desc.specs.declared.top.InstDesc.{InstDesc}
use Rattle.cg_desc.specs.declared.top.MergedTop.{MergedTop}
use Rattle.cg_finding.specs.Finding.{in_file}
use Rattle.cg_finding.specs.Rules as rules
use Rattle.cg_finding.specs.Violations.{IsFirstFault}
use Rattle.cg_irq.specs.Numbers.{AreBits, AreNumbers, IsAlertBit, IsInterruptBit}
use Rattle.cg_irq.specs.declared.bits.Bit.{Bit}
use Rattle.cg_irq.specs.declared.bits.IrqMap.{IrqMap}

-- there are more than 1,024 of these bits in the instances up to number i, that one among them
abbrev pub PassesLimit : (Bit → Type 0) → ℕ → Type 0
PassesLimit Is i = (bits : List Bit) × AreBits (λ b. Is b × (b.inst ≤ i)) bits × (1024 < length bits)

-- What a top breaks: with an instance, interrupts or alerts are more than 1,024.
pub data Violates (m : MergedTop) : Fault → Type 0 where
  too_many_interrupts : (i : ℕ) (inst : InstDesc) → InstanceIs (design_of m) i inst → PassesLimit (IsInterruptBit m) i
      → Violates m (in_file m.top.file (rules.too_many_sources inst.at inst.name))
  too_many_alerts : (i : ℕ) (inst : InstDesc) → InstanceIs (design_of m) i inst → PassesLimit (IsAlertBit m) i
      → Violates m (in_file m.top.file (rules.too_many_sources inst.at inst.name))

-- the bits are those of the top, which breaks nothing
pub record IsNumbering (m : MergedTop) (map : IrqMap) : Type 0 where
  pub unbroken : (f : Fault) → ¬ Violates m f
  pub are_its : AreNumbers m map

-- the numbers, where nothing is broken; else the first that is; want of memory says nothing
abbrev pub Numbers : Result IrqMap DescFault → MergedTop → Type 0
Numbers (Ok map) m = IsNumbering m map
Numbers (Err (refusal.Fault f)) m = IsFirstFault (Violates m) f
Numbers (Err refusal.Memory) m = Unit {0}
