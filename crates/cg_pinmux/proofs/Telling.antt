-- What the walk over the signals tells, and the answer that it makes.
use Rattle.std.proofs.Common.{◌≡◌, ℕ, Option, Some, None, Err, refl, sym, subst}
use Rattle.cg_desc.specs.Faults.{Before}
use Rattle.cg_desc.specs.declared.fault.DescFault.{DescFault}
use Rattle.cg_desc.specs.declared.fault.DescFault.TheVariants as refusal
use Rattle.cg_desc.specs.declared.fault.Fault.{Fault}
use Rattle.cg_desc.specs.declared.top.MergedTop.{MergedTop}
use Rattle.cg_desc.specs.declared.top.SignalDesc.{SignalDesc}
use Rattle.cg_finding.specs.Finding.{Finding, in_file}
use Rattle.cg_finding.specs.Refusal.{Refuses}
use Rattle.cg_finding.specs.Rules as rules
use Rattle.cg_finding.specs.Told.{TellsFirst}
use Rattle.cg_finding.proofs.Told.{none_broken, tells_as}
use Rattle.cg_pinmux.specs.Checks.{SomeBreaks}
use Rattle.cg_pinmux.specs.Violations.{BreaksSignal, Pins, Violates}
use Rattle.cg_pinmux.proofs.Walks.{BreaksAt}

-- signal s breaks a rule, and is told
abbrev pub Breaks : MergedTop → ℕ → SignalDesc → Finding → Type 0
Breaks m s signal f = BreaksSignal m s signal × (f ≡ rules.bad_pin signal.at signal.inst)

-- all signals
pub tells_signals : (m : MergedTop) {told : Option Finding} → TellsFirst told (λ f. (s : ℕ) × BreaksAt (Breaks m) m.top.signals s f) → TellsFirst told (SomeBreaks m)
tells_signals m t = tells_as t
    (λ f b. record { number = b.0; signal = b.1.0; is = b.1.1; breaks = b.1.2.0; told = b.1.2.1 })
    (λ f b. (b.number, (b.signal, b.is, (b.breaks, b.told))))

-- a finding is a violation in the top's file
found_violates : (m : MergedTop) (f : Finding) → SomeBreaks m f → Violates m (in_file m.top.file f)
found_violates m f b = subst (λ (g : Finding). Violates m (in_file m.top.file g)) (sym b.told) (Violates.at_signal b.number b.signal b.is b.breaks)

-- where nothing is told, nothing is violated
pub unbroken_of : (m : MergedTop) → TellsFirst None (SomeBreaks m) → (f : Fault) → ¬ Violates m f
unbroken_of m t _ (Violates.at_signal s signal is breaks) = none_broken t (rules.bad_pin signal.at signal.inst) (record { number = s; signal = signal; is = is; breaks = breaks; told = refl })

-- a refusal by what is told is that by the first fault
pub refused : (m : MergedTop) (f : Finding) (e : DescFault) (t : TellsFirst (Some f) (SomeBreaks m)) → Refuses e m.top.file t.faults → Pins (Err e) m
refused m f (refusal.Fault fault) t refuses = record {
  violates = subst (Violates m) (sym refuses.1) (found_violates m refuses.0 (t.sound refuses.0 refuses.2.among));
  least = λ other violates. subst (λ (g : Fault). ¬ Before other g) (sym refuses.1) (least other violates);
} where
  least : (other : Fault) → Violates m other → Before other (in_file m.top.file refuses.0) → ⊥
  least _ (Violates.at_signal s signal is breaks) =
      refuses.2.least m.top.file (rules.bad_pin signal.at signal.inst) (t.complete (rules.bad_pin signal.at signal.inst) (record { number = s; signal = signal; is = is; breaks = breaks; told = refl }))
refused m f refusal.Memory t refuses = tt
