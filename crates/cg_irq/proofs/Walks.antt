-- What a walk over items tells, item by item.
use Rattle.std.proofs.Common.{◌≡◌, ◌+◌, ◌<◌, ◌≤◌, ℕ, Bool, true, false, cond, List, get_or, length, Option, Some, None, refl, sym, subst, arith}
use Rattle.std.specs.Bool.{Decides}
use Rattle.std.specs.List.{slice_get}
use Rattle.std.proofs.lemmas.Bool.{false≢true}
use Rattle.std.proofs.lemmas.Option.{slice_get_read, slice_get_within}
use Rattle.cg_desc.specs.Faults.{Before}
use Rattle.cg_desc.specs.declared.fault.DescFault.TheVariants as refusal
use Rattle.cg_desc.specs.declared.fault.Fault.{Fault}
use Rattle.cg_finding.specs.Finding.{Finding, earlier, in_file}
use Rattle.cg_finding.specs.Refusal.{Refuses}
use Rattle.cg_finding.specs.Violations.{IsFirstFault}
use Rattle.cg_finding.specs.Told.{TellsFirst}
use Rattle.cg_finding.proofs.Told.{BrokenBelow, tells_all, tells_as, tells_next, tells_nothing, tells_one, tells_start}
use Rattle.cg_desc.proofs.Numbered.{same_item}
use Rattle.cg_irq.specs.Walked.{SomeBreaks}

-- the item of this number breaks it
abbrev pub BreaksAt : {X : Type 0} → (ℕ → X → Finding → Type 0) → List X → ℕ → Finding → Type 0
BreaksAt {X} B xs i f = (x : X) × (slice_get xs i ≡ Some x) × B i x f

-- what the items below n break
abbrev pub Walked : {X : Type 0} → (ℕ → X → Finding → Type 0) → List X → Option Finding → ℕ → Type 0
Walked B xs told n = TellsFirst told (BrokenBelow (BreaksAt B xs) n)

pub walk_start : {X : Type 0} (B : ℕ → X → Finding → Type 0) (xs : List X) → Walked B xs None 0
walk_start B xs = tells_start

-- one more item
pub walk_next : {X : Type 0} (B : ℕ → X → Finding → Type 0) (xs : List X) (n : ℕ) (x : X) (told now new : Option Finding) → n < length xs → x ≡ get_or xs n x
    → Walked B xs told n → TellsFirst now (B n x) → new ≡ earlier told now → Walked B xs new (n + 1)
walk_next B xs n x told now new less is walked here so =
    let there = slice_get_read xs (length xs) n x refl less is in
    tells_next n walked
    (tells_as here (λ f broken. (x, there, broken)) (λ f broken. subst (λ y. B n y f) (same_item xs n broken.0 x broken.1 there) broken.2)) so

-- all of them
pub walk_end : {X : Type 0} (B : ℕ → X → Finding → Type 0) (xs : List X) (told : Option Finding) (n : ℕ) → length xs ≤ n → Walked B xs told n → TellsFirst told (SomeBreaks B xs)
walk_end B xs told n most walked =
    tells_all n walked (λ f i broken. (i, broken.0, broken.1, broken.2))
    (λ f broken. let within = slice_get_within xs broken.0 broken.1 broken.2 in (broken.0, omega arith, (broken.1, broken.2, broken.3)))

-- ---- one test

-- a rule that is broken where a test says so
pub tells_when : {P : Type 0} (b : Bool) (g : Finding) → Decides b P → TellsFirst (cond b (Some g) None) (λ f. P × (f ≡ g))
tells_when true g d = tells_one g (d.0 refl, refl) (λ f broken. broken.1)
tells_when false g d = tells_nothing (λ f broken. false≢true (d.1 broken.0))

-- ---- the fault of a file

-- a fault of the top's file that a walk tells is the first
pub first_fault : (Violates : Fault → Type 0) (B : Finding → Type 0) (file : ℕ) → ((f : Finding) → B f → Violates (in_file file f)) → ((fault : Fault) → Violates fault → (f : Finding) × (fault ≡ in_file file f) × B f)
    → (g : Finding) (t : TellsFirst (Some g) B) (fault : Fault) → Refuses (refusal.Fault fault) file t.faults → IsFirstFault Violates fault
first_fault Violates B file to from g t fault refuses = record {
  violates = subst Violates (sym refuses.1) (to refuses.0 (t.sound refuses.0 refuses.2.among));
  least = λ other broken before.
      let one = from other broken in
      refuses.2.least file one.0 (t.complete one.0 one.2) (subst (λ f. Before f (in_file file refuses.0)) one.1 (subst (Before other) refuses.1 before));
}
