-- The widths of a top's interrupts and alerts, and how many bits there are.
use Rattle.std.proofs.Common.{◌≡◌, ◌↔◌, ◌+◌, ◌<◌, ◌≤◌, ℕ, zero, suc, List, [], ◌∷◌, length, map, take, min, Option, Some, None, refl, sym, ap, subst, ◌∙◌, arith}
use Rattle.std.specs.List.{slice_get}
use Rattle.std.proofs.lemmas.List.{length-append}
use Rattle.cg_desc.specs.declared.block.AlertDesc.{AlertDesc}
use Rattle.cg_desc.specs.declared.block.IntrDesc.{IntrDesc}
use Rattle.cg_desc.specs.declared.block.LaidBlock.{LaidBlock}
use Rattle.cg_desc.specs.declared.top.MergedTop.{MergedTop}
use Rattle.cg_desc.proofs.Numbered.{image_at, image_of}
use Rattle.cg_irq.specs.Listed.{alert_widths, bit_count, bits_of, interrupt_widths, item_bits, list_bits, widths_of}
use Rattle.cg_irq.specs.Numbers.{AreBits, IsAlertBit, IsInterruptBit}
use Rattle.cg_irq.specs.Violations.{PassesLimit}
use Rattle.cg_irq.specs.declared.bits.Bit.{Bit}
use Rattle.cg_irq.proofs.Listed.{InList, InLists, listed_bits, one_list}

-- ---- widths

-- the widths of an instance are those of its block
pub widths_at : (widths : Option LaidBlock → List ℕ) (m : MergedTop) (i : ℕ) (k : ℕ) (block : LaidBlock) → slice_get m.kinds i ≡ Some k → slice_get m.blocks k ≡ Some block
    → slice_get (widths_of widths m) i ≡ Some (widths (Some block))
unfolding widths_of
widths_at widths m i k block kind is = image_at (λ n. widths (slice_get m.blocks n)) m.kinds i k kind ∙ ap (λ o. Some (widths o)) is

-- an interrupt of a block with a bit, by its width
interrupt_to : (m : MergedTop) (b : Bit) (k : ℕ) → slice_get m.kinds b.inst ≡ Some k → (o : Option LaidBlock) → slice_get m.blocks k ≡ o → InList (interrupt_widths o) b.item b.bit → IsInterruptBit m b
unfolding interrupt_widths
interrupt_to m b k kind None is there = let e : slice_get {X = ℕ} [] b.item ≡ Some there.width = there.is in cc
interrupt_to m b k kind (Some block) is there =
    let one = image_of (λ (i : IntrDesc). i.width) block.desc.intrs b.item there.width there.is in
    record { interrupt = one.0; is = (block, (k, kind, is), one.1); within = omega (arith, one.2, there.within) }

pub interrupt_bits : (m : MergedTop) (b : Bit) → InLists (widths_of interrupt_widths m) b.inst b.item b.bit ↔ IsInterruptBit m b
unfolding widths_of interrupt_widths
interrupt_bits m b = (to, from) where
  to : InLists (map (λ k. interrupt_widths (slice_get m.blocks k)) m.kinds) b.inst b.item b.bit → IsInterruptBit m b
  to there =
      let one = image_of (λ k. interrupt_widths (slice_get m.blocks k)) m.kinds b.inst there.widths there.is in
      interrupt_to m b one.0 one.1 (slice_get m.blocks one.0) refl (subst (λ ws. InList ws b.item b.bit) (sym one.2) there.in_list)

  from : IsInterruptBit m b → InLists (map (λ k. interrupt_widths (slice_get m.blocks k)) m.kinds) b.inst b.item b.bit
  from is =
      let block = is.is.0 in
      let number = is.is.1 in
      record {
        widths = map (λ (i : IntrDesc). i.width) block.desc.intrs;
        is = widths_at interrupt_widths m b.inst number.0 block number.1 number.2;
        in_list = record { width = is.interrupt.width; is = image_at (λ (i : IntrDesc). i.width) block.desc.intrs b.item is.interrupt is.is.2; within = is.within };
      }

-- an alert of a block, by its one bit
alert_to : (m : MergedTop) (b : Bit) (k : ℕ) → slice_get m.kinds b.inst ≡ Some k → (o : Option LaidBlock) → slice_get m.blocks k ≡ o → InList (alert_widths o) b.item b.bit → IsAlertBit m b
unfolding alert_widths
alert_to m b k kind None is there = let e : slice_get {X = ℕ} [] b.item ≡ Some there.width = there.is in cc
alert_to m b k kind (Some block) is there =
    let one = image_of (λ (a : AlertDesc). 1) block.desc.alerts b.item there.width there.is in
    record { alert = one.0; is = (block, (k, kind, is), one.1); only = omega (arith, one.2, there.within) }

pub alert_bits : (m : MergedTop) (b : Bit) → InLists (widths_of alert_widths m) b.inst b.item b.bit ↔ IsAlertBit m b
unfolding widths_of alert_widths
alert_bits m b = (to, from) where
  to : InLists (map (λ k. alert_widths (slice_get m.blocks k)) m.kinds) b.inst b.item b.bit → IsAlertBit m b
  to there =
      let one = image_of (λ k. alert_widths (slice_get m.blocks k)) m.kinds b.inst there.widths there.is in
      alert_to m b one.0 one.1 (slice_get m.blocks one.0) refl (subst (λ ws. InList ws b.item b.bit) (sym one.2) there.in_list)

  from : IsAlertBit m b → InLists (map (λ k. alert_widths (slice_get m.blocks k)) m.kinds) b.inst b.item b.bit
  from is =
      let block = is.is.0 in
      let number = is.is.1 in
      record {
        widths = map (λ (a : AlertDesc). 1) block.desc.alerts;
        is = widths_at alert_widths m b.inst number.0 block number.1 number.2;
        in_list = record { width = 1; is = image_at (λ (a : AlertDesc). 1) block.desc.alerts b.item is.alert is.is.2; within = omega (arith, is.only) };
      }

-- ---- how many bits

-- all bits of these lists of widths
abbrev pub total : List (List ℕ) → ℕ
total [] = 0
total (ws ∷ wss) = bit_count ws + total wss

item_length : (i k s n : ℕ) → length (item_bits i k s n) ≡ n
unfolding item_bits
item_length i k s zero = refl
item_length i k s (suc n) = ap suc (item_length i k (suc s) n)

pub list_length : (i k : ℕ) (ws : List ℕ) → length (list_bits i k ws) ≡ bit_count ws
unfolding list_bits
list_length i k [] = refl
list_length i k (w ∷ ws) =
    let here = item_length i k 0 w in
    let rest = list_length i (suc k) ws in
    length-append (item_bits i k 0 w) (list_bits i (suc k) ws) ∙ omega (arith, here, rest)

pub bits_length : (i : ℕ) (wss : List (List ℕ)) → length (bits_of i wss) ≡ total wss
unfolding bits_of
bits_length i [] = refl
bits_length i (ws ∷ wss) =
    let here = list_length i 0 ws in
    let rest = bits_length (suc i) wss in
    length-append (list_bits i 0 ws) (bits_of (suc i) wss) ∙ omega (arith, here, rest)

-- one more instance
pub total_next : (wss : List (List ℕ)) (n : ℕ) (ws : List ℕ) → slice_get wss n ≡ Some ws → total (take (suc n) wss) ≡ total (take n wss) + bit_count ws
total_next [] n ws is = cc
total_next (v ∷ wss) zero ws is = let same : v ≡ ws = cc in let e = ap bit_count same in omega (arith, e)
total_next (v ∷ wss) (suc n) ws is = let rest = total_next wss n ws is in omega (arith, rest)

-- ---- with some instance

taken : (wss : List (List ℕ)) (n i : ℕ) (ws : List ℕ) → slice_get (take n wss) i ≡ Some ws → (slice_get wss i ≡ Some ws) × (i < n)
taken wss zero i ws is = let e : slice_get {X = List ℕ} [] i ≡ Some ws = is in cc
taken [] (suc n) i ws is = cc
taken (v ∷ wss) (suc n) zero ws is = (is, omega arith)
taken (v ∷ wss) (suc n) (suc i) ws is = let rest = taken wss n i ws is in (rest.0, omega (arith, rest.1))

untaken : (wss : List (List ℕ)) (n i : ℕ) (ws : List ℕ) → slice_get wss i ≡ Some ws → i < n → slice_get (take n wss) i ≡ Some ws
untaken wss zero i ws is less = absurd (omega (arith, less))
untaken [] (suc n) i ws is less = cc
untaken (v ∷ wss) (suc n) zero ws is less = is
untaken (v ∷ wss) (suc n) (suc i) ws is less = untaken wss n i ws is (omega (arith, less))

module _ (Is : Bit → Type 0) (wss : List (List ℕ)) (same : (b : Bit) → InLists wss b.inst b.item b.bit ↔ Is b) where
  up_to : (i : ℕ) (b : Bit) → InLists (take (suc i) wss) b.inst b.item b.bit ↔ (Is b × (b.inst ≤ i))
  up_to i b = (to, from) where
    to : InLists (take (suc i) wss) b.inst b.item b.bit → Is b × (b.inst ≤ i)
    to there =
        let at = taken wss (suc i) b.inst there.widths there.is in
        ((same b).0 (record { widths = there.widths; is = at.0; in_list = there.in_list }), omega (arith, at.1))

    from : Is b × (b.inst ≤ i) → InLists (take (suc i) wss) b.inst b.item b.bit
    from is =
        let there = (same b).1 is.0 in
        record { widths = there.widths; is = untaken wss (suc i) b.inst there.widths there.is (omega (arith, is.1)); in_list = there.in_list }

  -- the bits up to an instance are too many where their number is
  pub passes : (i : ℕ) → PassesLimit Is i ↔ (1024 < total (take (suc i) wss))
  passes i = (to, from) where
    all : AreBits (λ b. Is b × (b.inst ≤ i)) (bits_of 0 (take (suc i) wss))
    all = listed_bits (λ b. Is b × (b.inst ≤ i)) (take (suc i) wss) (up_to i)

    number : length (bits_of 0 (take (suc i) wss)) ≡ total (take (suc i) wss)
    number = bits_length 0 (take (suc i) wss)

    to : PassesLimit Is i → 1024 < total (take (suc i) wss)
    to (bits, are, more) = let e = ap length (one_list (λ b. Is b × (b.inst ≤ i)) bits (bits_of 0 (take (suc i) wss)) are all) in omega (arith, e, number, more)

    from : 1024 < total (take (suc i) wss) → PassesLimit Is i
    from more = (bits_of 0 (take (suc i) wss), all, omega (arith, number, more))

-- ---- counts that stop

-- a count that stops at 1,025 passes 1,024 where the number does
pub stops : (n : ℕ) → (1024 < min n 1025) ↔ (1024 < n)
stops n = (λ h. grind arith, λ h. grind arith)

pub stop_next : (a b : ℕ) → min (min a 1025 + b) 1025 ≡ min (a + b) 1025
stop_next a b = grind arith

pub stop_both : (a b : ℕ) → min (min a 1025 + min b 1025) 1025 ≡ min (a + b) 1025
stop_both a b = grind arith
