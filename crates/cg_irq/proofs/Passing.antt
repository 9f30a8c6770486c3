-- With which instance interrupts or alerts pass the limit, and the first fault of a top.
use Rattle.std.proofs.Common.{◌≡◌, ◌↔◌, ◌+◌, ◌<◌, ◌≤◌, ◌⊎◌, ℕ, zero, suc, Bool, cond, List, [], ◌∷◌, length, map, min, take, Option, Some, None, Err, inl, inr, refl, sym, ap, subst, ◌∙◌, arith}
use Rattle.std.specs.Bool.{Decides}
use Rattle.std.specs.List.{slice_get}
use Rattle.std.proofs.lemmas.List.{length-map, take_all}
use Rattle.cg_desc.specs.declared.block.AlertDesc.{AlertDesc}
use Rattle.cg_desc.specs.declared.block.LaidBlock.{LaidBlock}
use Rattle.cg_desc.specs.declared.fault.DescFault.{DescFault}
use Rattle.cg_desc.specs.declared.fault.DescFault.TheVariants as refusal
use Rattle.cg_desc.specs.declared.fault.Fault.{Fault}
use Rattle.cg_desc.specs.declared.top.InstDesc.{InstDesc}
use Rattle.cg_desc.specs.declared.top.MergedTop.{MergedTop}
use Rattle.cg_desc.proofs.Numbered.{item_at}
use Rattle.cg_finding.specs.Finding.{Finding, in_file}
use Rattle.cg_finding.specs.Refusal.{Refuses}
use Rattle.cg_finding.specs.Rules as rules
use Rattle.cg_finding.specs.Told.{TellsFirst}
use Rattle.cg_finding.proofs.Told.{none_broken}
use Rattle.cg_irq.specs.Instances.{HasBlocks}
use Rattle.cg_irq.specs.Listed.{alert_widths, bit_count, bits_of, interrupt_widths, widths_of}
use Rattle.cg_irq.specs.Numbers.{IsAlertBit, IsInterruptBit}
use Rattle.cg_irq.specs.Violations.{Numbers, PassesLimit, Violates}
use Rattle.cg_irq.specs.Walked.{PassesWith, SomeBreaks}
use Rattle.cg_irq.specs.declared.bits.Bit.{Bit}
use Rattle.cg_irq.proofs.Walks.{first_fault, tells_when}
use Rattle.cg_irq.proofs.Widths.{alert_bits, bits_length, interrupt_bits, passes, stop_both, stops, total, total_next, widths_at}

-- ---- counts

-- one more instance
pub count_next : (widths : Option LaidBlock → List ℕ) (m : MergedTop) (i k : ℕ) (block : LaidBlock) (old here new : ℕ) → slice_get m.kinds i ≡ Some k → slice_get m.blocks k ≡ Some block
    → old ≡ min (total (take i (widths_of widths m))) 1025 → here ≡ min (bit_count (widths (Some block))) 1025 → new ≡ min (old + here) 1025
    → new ≡ min (total (take (i + 1) (widths_of widths m))) 1025
count_next widths m i k block old here new kind is before own so =
    so ∙ (λ t. min (before t + own t) 1025) ∙ stop_both (total (take i (widths_of widths m))) (bit_count (widths (Some block)))
    ∙ ap (λ n. min n 1025) (sym (total_next (widths_of widths m) i (widths (Some block)) (widths_at widths m i k block kind is)) ∙ ap (λ n. total (take n (widths_of widths m))) next)
  where
    next : suc i ≡ i + 1
    next = omega arith

-- the counts pass the limit where the bits do
pub decides_passes : (m : MergedTop) (i interrupts alerts : ℕ) (b : Bool) → interrupts ≡ min (total (take (i + 1) (widths_of interrupt_widths m))) 1025
    → alerts ≡ min (total (take (i + 1) (widths_of alert_widths m))) 1025 → Decides b ((1024 < interrupts) ⊎ (1024 < alerts))
    → Decides b (PassesLimit (IsInterruptBit m) i ⊎ PassesLimit (IsAlertBit m) i)
decides_passes m i interrupts alerts b int alert d = (λ is. to (d.0 is), λ broken. d.1 (from broken)) where
  ints : PassesLimit (IsInterruptBit m) i ↔ (1024 < total (take (suc i) (widths_of interrupt_widths m)))
  ints = passes (IsInterruptBit m) (widths_of interrupt_widths m) (interrupt_bits m) i

  alts : PassesLimit (IsAlertBit m) i ↔ (1024 < total (take (suc i) (widths_of alert_widths m)))
  alts = passes (IsAlertBit m) (widths_of alert_widths m) (alert_bits m) i

  next : suc i ≡ i + 1
  next = omega arith

  same : (widths : Option LaidBlock → List ℕ) → total (take (suc i) (widths_of widths m)) ≡ total (take (i + 1) (widths_of widths m))
  same widths = ap (λ n. total (take n (widths_of widths m))) next

  to : (1024 < interrupts) ⊎ (1024 < alerts) → PassesLimit (IsInterruptBit m) i ⊎ PassesLimit (IsAlertBit m) i
  to (inl more) = inl (ints.1 (subst (λ n. 1024 < n) (sym (same interrupt_widths)) ((stops _).0 (subst (λ n. 1024 < n) int more))))
  to (inr more) = inr (alts.1 (subst (λ n. 1024 < n) (sym (same alert_widths)) ((stops _).0 (subst (λ n. 1024 < n) alert more))))

  from : PassesLimit (IsInterruptBit m) i ⊎ PassesLimit (IsAlertBit m) i → (1024 < interrupts) ⊎ (1024 < alerts)
  from (inl over) = inl (subst (λ n. 1024 < n) (sym int) ((stops _).1 (subst (λ n. 1024 < n) (same interrupt_widths) (ints.0 over))))
  from (inr over) = inr (subst (λ n. 1024 < n) (sym alert) ((stops _).1 (subst (λ n. 1024 < n) (same alert_widths) (alts.0 over))))

-- there are as many bits of alerts as alerts
pub alert_number : (xs : List AlertDesc) (n : ℕ) → n ≡ min (length xs) 1025 → n ≡ min (bit_count (map (λ x. 1) xs)) 1025
alert_number xs n is = is ∙ ap (λ k. min k 1025) (same xs) where
  same : (xs : List AlertDesc) → length xs ≡ bit_count (map (λ x. 1) xs)
  same [] = refl
  same (x ∷ xs) = let rest = same xs in omega (arith, rest)

-- what an instance breaks
pub tells_passes : (m : MergedTop) (i : ℕ) (inst : InstDesc) (b : Bool) (told : Option Finding) → told ≡ cond b (Some (rules.too_many_sources inst.at inst.name)) None
    → Decides b (PassesLimit (IsInterruptBit m) i ⊎ PassesLimit (IsAlertBit m) i) → TellsFirst told (PassesWith m i inst)
tells_passes m i inst b told is d = subst (λ o. TellsFirst o (PassesWith m i inst)) (sym is) (tells_when b (rules.too_many_sources inst.at inst.name) d)

-- ---- the fault of a file

violates_to : (m : MergedTop) (f : Finding) → SomeBreaks (PassesWith m) m.top.insts f → Violates m (in_file m.top.file f)
violates_to m f (i, inst, there, (inl interrupts, is)) = subst (λ g. Violates m (in_file m.top.file g)) (sym is) (Violates.too_many_interrupts i inst there interrupts)
violates_to m f (i, inst, there, (inr alerts, is)) = subst (λ g. Violates m (in_file m.top.file g)) (sym is) (Violates.too_many_alerts i inst there alerts)

violates_from : (m : MergedTop) (fault : Fault) → Violates m fault → (f : Finding) × (fault ≡ in_file m.top.file f) × SomeBreaks (PassesWith m) m.top.insts f
violates_from m _ (Violates.too_many_interrupts i inst there over) = (_, refl, (i, inst, there, (inl over, refl)))
violates_from m _ (Violates.too_many_alerts i inst there over) = (_, refl, (i, inst, there, (inr over, refl)))

pub first_told : (m : MergedTop) (g : Finding) (t : TellsFirst (Some g) (SomeBreaks (PassesWith m) m.top.insts)) (e : DescFault) → Refuses e m.top.file t.faults → Numbers (Err e) m
first_told m g t (refusal.Fault fault) refuses = first_fault (Violates m) (SomeBreaks (PassesWith m) m.top.insts) m.top.file (violates_to m) (violates_from m) g t fault refuses
first_told m g t refusal.Memory refuses = tt

-- ---- nothing is broken

pub unbroken : (m : MergedTop) → TellsFirst None (SomeBreaks (PassesWith m) m.top.insts) → (f : Fault) → ¬ Violates m f
unbroken m t f broken = let one = violates_from m f broken in none_broken t one.0 one.2

-- the last instance has all before it
few_of : (m : MergedTop) → HasBlocks m → (widths : Option LaidBlock → List ℕ) (Is : (Bit → Type 0))
    → ((i : ℕ) → PassesLimit Is i ↔ (1024 < total (take (suc i) (widths_of widths m)))) → ((i : ℕ) (inst : InstDesc) → slice_get m.top.insts i ≡ Some inst → PassesLimit Is i → ⊥)
    → length (bits_of 0 (widths_of widths m)) ≤ 1024
unfolding widths_of
few_of m has widths Is over none = by (length m.kinds) refl where
  number : length (bits_of 0 (widths_of widths m)) ≡ total (widths_of widths m)
  number = bits_length 0 (widths_of widths m)

  whole : (n : ℕ) → length m.kinds ≡ n → take n (widths_of widths m) ≡ widths_of widths m
  whole n is = let e = length-map m.kinds (λ k. widths (slice_get m.blocks k)) in take_all n (widths_of widths m) (omega (arith, e, is))

  few_from : (n : ℕ) → (1024 < n → ⊥) → n ≤ 1024
  few_from n h = omega (arith, h)

  by : (n : ℕ) → length m.kinds ≡ n → length (bits_of 0 (widths_of widths m)) ≤ 1024
  by zero is = let e = ap total (whole 0 is) in omega (arith, number, e)
  by (suc n) is =
      let inst = item_at m.top.insts n (omega (arith, is, has.count)) in
      let e = ap total (whole (suc n) is) in
      let few = few_from (total (take (suc n) (widths_of widths m))) (λ more. none n inst.0 inst.1 ((over n).1 more)) in
      omega (arith, number, e, few)

pub few_interrupts : (m : MergedTop) → HasBlocks m → TellsFirst None (SomeBreaks (PassesWith m) m.top.insts) → length (bits_of 0 (widths_of interrupt_widths m)) ≤ 1024
few_interrupts m has t =
    few_of m has interrupt_widths (IsInterruptBit m) (passes (IsInterruptBit m) (widths_of interrupt_widths m) (interrupt_bits m))
    (λ i inst there over. none_broken t _ (i, inst, there, (inl over, refl)))

pub few_alerts : (m : MergedTop) → HasBlocks m → TellsFirst None (SomeBreaks (PassesWith m) m.top.insts) → length (bits_of 0 (widths_of alert_widths m)) ≤ 1024
few_alerts m has t =
    few_of m has alert_widths (IsAlertBit m) (passes (IsAlertBit m) (widths_of alert_widths m) (alert_bits m))
    (λ i inst there over. none_broken t _ (i, inst, there, (inr over, refl)))
