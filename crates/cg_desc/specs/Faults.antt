-- The order of faults.
use Rattle.std.specs.Prelude.{◌≡◌, ◌<◌, ◌⊎◌, ℕ, List, [], ◌∷◌}
use Rattle.std.specs.Ordering.{nat_cmp, then_cmp, on}
use Rattle.std.specs.declared.cmp.Ordering.{Ordering}
use Rattle.std.specs.Cmp.Lexicographic.{slice_cmp}
use Rattle.cg_desc.specs.declared.fault.Fault.{Fault}

-- smaller in one thing, or alike in it and before in the rest
abbrev pub FirstThen : (smaller alike rest : Type 0) → Type 0
FirstThen smaller alike rest = smaller ⊎ (alike × rest)

-- bytes in the order of a dictionary, where a text stands before what goes on from it
abbrev pub BytesBefore : List ℕ → List ℕ → Type 0
BytesBefore xs [] = ⊥
BytesBefore [] (y ∷ ys) = Unit {0}
BytesBefore (x ∷ xs) (y ∷ ys) = FirstThen (x < y) (x ≡ y) (BytesBefore xs ys)

-- the order of phase, then file, then byte place, then rule, then the bytes of the name
unfoldable pub Before : Fault → Fault → Type 0
Before f g =
    FirstThen (f.phase < g.phase) (f.phase ≡ g.phase)
    (FirstThen (f.file < g.file) (f.file ≡ g.file)
    (FirstThen (f.at.byte < g.at.byte) (f.at.byte ≡ g.at.byte)
    (FirstThen (f.rule < g.rule) (f.rule ≡ g.rule)
    (BytesBefore f.name g.name))))

-- two faults that agree in all that the order reads
pub record SameRank (f g : Fault) : Type 0 where
  pub phase : f.phase ≡ g.phase
  pub file : f.file ≡ g.file
  pub byte : f.at.byte ≡ g.at.byte
  pub rule : f.rule ≡ g.rule
  pub name : f.name ≡ g.name

-- the same order as a comparison
unfoldable pub fault_cmp : Fault → Fault → Ordering
fault_cmp =
    then_cmp (on (λ f. f.phase) nat_cmp)
    (then_cmp (on (λ f. f.file) nat_cmp)
    (then_cmp (on (λ f. f.at.byte) nat_cmp)
    (then_cmp (on (λ f. f.rule) nat_cmp)
    (on (λ f. f.name) (slice_cmp nat_cmp)))))

-- no fault is before itself
abbrev pub BeforeIsIrreflexive : Type 0
BeforeIsIrreflexive = (f : Fault) → ¬ Before f f

-- what is before a fault that is before a third is before the third
abbrev pub BeforeIsTransitive : Type 0
BeforeIsTransitive = (f g h : Fault) → Before f g → Before g h → Before f h

-- of two faults that differ in what the order reads, one is before the other
abbrev pub BeforeIsTotal : Type 0
BeforeIsTotal = (f g : Fault) → ¬ Before f g → ¬ Before g f → SameRank f g
