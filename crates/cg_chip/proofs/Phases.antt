-- What is broken of numbers, sources, pins and names comes in this order, and what is found first of one is the first of all.
use Rattle.std.proofs.Common.{◌≡◌, ◌<◌, ℕ, List, inl, inr, refl, sym, subst, arith, Some, Err, Ok, Result}
use Rattle.cg_clkrst.specs.Violations.{Violates as BreaksSources, instance_clock, instance_reset, crossbar_clock}
use Rattle.cg_desc.specs.Faults.{Before}
use Rattle.cg_desc.specs.declared.fault.Fault.{Fault}
use Rattle.cg_desc.specs.declared.top.MergedTop.{MergedTop}
use Rattle.cg_files.specs.Files.{File}
use Rattle.cg_finding.specs.Violations.{IsFirstFault}
use Rattle.cg_irq.specs.Violations.{Violates as BreaksNumbers, too_many_interrupts, too_many_alerts}
use Rattle.cg_pinmux.specs.Violations.{Violates as BreaksPins, at_signal}
use Rattle.cg_space.specs.Violations.{NoViolation}
use Rattle.cg_design.specs.Design.{AreMerged}
use Rattle.cg_design.specs.Laws.{MergedIsOne}
use Rattle.cg_design.specs.Violations.{Violates as BreaksDesign}
use Rattle.cg_chip.specs.Violations.{IsSpaced, Violates, design, numbers, sources, pins, top_names, crossbar_names, block_names}

-- ---- phases

-- of a later phase nothing is before
pub later_phase : (f g : Fault) → f.phase < g.phase → ¬ Before g f
unfolding Before
later_phase f g less (inl earlier) = absurd (omega arith)
later_phase f g less (inr (same, rest)) = absurd (omega (arith, same))

-- nor of one phase in a later file
pub later_file : (f g : Fault) → f.phase ≡ g.phase → f.file < g.file → ¬ Before g f
unfolding Before
later_file f g phase less (inl earlier) = absurd (omega (arith, phase, earlier))
later_file f g phase less (inr (same, inl earlier)) = absurd (omega (arith, less, earlier))
later_file f g phase less (inr (same, inr (also, rest))) = absurd (omega (arith, less, also))

pub numbers_phase : (m : MergedTop) (f : Fault) → BreaksNumbers m f → f.phase ≡ 9
numbers_phase m _ (too_many_interrupts i inst is passes) = refl
numbers_phase m _ (too_many_alerts i inst is passes) = refl

pub sources_phase : (m : MergedTop) (f : Fault) → BreaksSources m f → f.phase ≡ 10
sources_phase m _ (instance_clock i inst port is lacks) = refl
sources_phase m _ (instance_reset i inst port is lacks) = refl
sources_phase m _ (crossbar_clock x listed port is lacks) = refl

pub pins_phase : (m : MergedTop) (f : Fault) → BreaksPins m f → f.phase ≡ 11
pins_phase m _ (at_signal s signal is breaks) = refl

-- ---- the first of all

-- the files are merged so, their ranges are apart, and they break nothing up to there
pub record IsSound (files : List File) (m : MergedTop) : Type 0 where
  pub spaced : IsSpaced files m
  pub unbroken : (f : Fault) → ¬ BreaksDesign files f

module _ (one : MergedIsOne) (files : List File) (m : MergedTop) (sound : IsSound files m) where
  -- what is broken of a top that the files are merged to is broken of this one
  pub of_this : (Breaks : MergedTop → Fault → Type 0) (n : MergedTop) (f : Fault) → IsSpaced files n → Breaks n f → Breaks m f
  of_this Breaks n f spaced broken = subst (λ (t : MergedTop). Breaks t f) (one files n m spaced.merged sound.spaced.merged) broken

  numbers_least : (f g : Fault) → IsFirstFault (BreaksNumbers m) f → Violates files g → ¬ Before g f
  numbers_least f g first (design broken) = absurd (sound.unbroken g broken)
  numbers_least f g first (numbers n spaced broken) = first.least g (of_this BreaksNumbers n g spaced broken)
  numbers_least f g first (sources n spaced broken) =
      let low = numbers_phase m f first.violates in
      let high = sources_phase n g broken in
      later_phase f g (omega (arith, low, high))
  numbers_least f g first (pins n spaced broken) =
      let low = numbers_phase m f first.violates in
      let high = pins_phase n g broken in
      later_phase f g (omega (arith, low, high))
  numbers_least f g first (top_names c name is clash) = let low = numbers_phase m f first.violates in later_phase f _ (omega (arith, low))
  numbers_least f g first (crossbar_names c x xbar ranges name is at clash) = let low = numbers_phase m f first.violates in later_phase f _ (omega (arith, low))
  numbers_least f g first (block_names c k laid tree name is at clash) = let low = numbers_phase m f first.violates in later_phase f _ (omega (arith, low))

  -- the first of the numbers' faults is the first of all
  pub numbers_first : (f : Fault) → IsFirstFault (BreaksNumbers m) f → IsFirstFault (Violates files) f
  numbers_first f first = record { violates = numbers m sound.spaced first.violates; least = λ g also. numbers_least f g first also }

  sources_least : ((f : Fault) → ¬ BreaksNumbers m f) → (f g : Fault) → IsFirstFault (BreaksSources m) f → Violates files g → ¬ Before g f
  sources_least few f g first (design broken) = absurd (sound.unbroken g broken)
  sources_least few f g first (numbers n spaced broken) = absurd (few g (of_this BreaksNumbers n g spaced broken))
  sources_least few f g first (sources n spaced broken) = first.least g (of_this BreaksSources n g spaced broken)
  sources_least few f g first (pins n spaced broken) =
      let low = sources_phase m f first.violates in
      let high = pins_phase n g broken in
      later_phase f g (omega (arith, low, high))
  sources_least few f g first (top_names c name is clash) = let low = sources_phase m f first.violates in later_phase f _ (omega (arith, low))
  sources_least few f g first (crossbar_names c x xbar ranges name is at clash) = let low = sources_phase m f first.violates in later_phase f _ (omega (arith, low))
  sources_least few f g first (block_names c k laid tree name is at clash) = let low = sources_phase m f first.violates in later_phase f _ (omega (arith, low))

  -- where no number is broken, the first of the sources' faults is
  pub sources_first : ((f : Fault) → ¬ BreaksNumbers m f) → (f : Fault) → IsFirstFault (BreaksSources m) f → IsFirstFault (Violates files) f
  sources_first few f first = record { violates = sources m sound.spaced first.violates; least = λ g also. sources_least few f g first also }

  pins_least : ((f : Fault) → ¬ BreaksNumbers m f) → ((f : Fault) → ¬ BreaksSources m f) → (f g : Fault) → IsFirstFault (BreaksPins m) f → Violates files g → ¬ Before g f
  pins_least few tied f g first (design broken) = absurd (sound.unbroken g broken)
  pins_least few tied f g first (numbers n spaced broken) = absurd (few g (of_this BreaksNumbers n g spaced broken))
  pins_least few tied f g first (sources n spaced broken) = absurd (tied g (of_this BreaksSources n g spaced broken))
  pins_least few tied f g first (pins n spaced broken) = first.least g (of_this BreaksPins n g spaced broken)
  pins_least few tied f g first (top_names c name is clash) = let low = pins_phase m f first.violates in later_phase f _ (omega (arith, low))
  pins_least few tied f g first (crossbar_names c x xbar ranges name is at clash) = let low = pins_phase m f first.violates in later_phase f _ (omega (arith, low))
  pins_least few tied f g first (block_names c k laid tree name is at clash) = let low = pins_phase m f first.violates in later_phase f _ (omega (arith, low))

  -- and where no source is, the first of the pins' faults is
  pub pins_first : ((f : Fault) → ¬ BreaksNumbers m f) → ((f : Fault) → ¬ BreaksSources m f) → (f : Fault) → IsFirstFault (BreaksPins m) f → IsFirstFault (Violates files) f
  pins_first few tied f first = record { violates = pins m sound.spaced first.violates; least = λ g also. pins_least few tied f g first also }
