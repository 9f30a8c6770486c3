-- What a walk over the instances of a top tells.
use Rattle.std.specs.Prelude.{◌≡◌, ◌⊎◌, ℕ, List, slice_get, Some}
use Rattle.cg_desc.specs.declared.top.InstDesc.{InstDesc}
use Rattle.cg_desc.specs.declared.top.MergedTop.{MergedTop}
use Rattle.cg_finding.specs.Finding.{Finding}
use Rattle.cg_finding.specs.Rules as rules
use Rattle.cg_irq.specs.Numbers.{IsAlertBit, IsInterruptBit}
use Rattle.cg_irq.specs.Violations.{PassesLimit}

-- one of the items breaks it, each with its number
abbrev pub SomeBreaks : {X : Type 0} → (ℕ → X → Finding → Type 0) → List X → Finding → Type 0
SomeBreaks {X} B xs f = (i : ℕ) × (x : X) × (slice_get xs i ≡ Some x) × B i x f

-- with an instance, interrupts or alerts are too many
abbrev pub PassesWith : MergedTop → ℕ → InstDesc → Finding → Type 0
PassesWith m i inst f = (PassesLimit (IsInterruptBit m) i ⊎ PassesLimit (IsAlertBit m) i) × (f ≡ rules.too_many_sources inst.at inst.name)
