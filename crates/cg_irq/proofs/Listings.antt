-- The bits so far, one more, and all of them.
use Rattle.std.proofs.Common.{◌≡◌, ◌+◌, ◌-◌, ◌<◌, ◌≤◌, ℕ, suc, List, [], ◌∷◌, ◌++◌, length, get_or, map, drop, drop-cons, Option, Some, sym, ap, ◌∙◌, arith}
use Rattle.std.specs.List.{slice_get}
use Rattle.std.proofs.lemmas.List.{append_assoc, append-nil, drop_all, length-append}
use Rattle.std.proofs.lemmas.Option.{get_or_from_slice_get, slice_get_within}
use Rattle.cg_svspec.specs.Printable.{AllOf}
use Rattle.cg_desc.specs.Valid.{IsValidInterrupt}
use Rattle.cg_desc.specs.declared.block.IntrDesc.{IntrDesc}
use Rattle.cg_desc.specs.declared.block.AlertDesc.{AlertDesc}
use Rattle.cg_desc.specs.declared.block.LaidBlock.{LaidBlock}
use Rattle.cg_desc.specs.declared.top.MergedTop.{MergedTop}
use Rattle.cg_irq.specs.Instances.{HasBlocks}
use Rattle.cg_irq.specs.Listed.{alert_widths, bit_count, bits_of, interrupt_widths, item_bits, list_bits}
use Rattle.cg_irq.specs.declared.bits.Bit.{Bit}
use Rattle.cg_irq.proofs.InstanceBlocks.{valid_block}
use Rattle.cg_irq.proofs.Widths.{list_length}

-- ---- bits of an item

pub next_bit : (i k w b : ℕ) (out new whole : List Bit) → b < w → new ≡ out ++ record { inst = i; item = k; bit = b } ∷ []
    → out ++ item_bits i k b (w - b) ≡ whole → new ++ item_bits i k (b + 1) (w - (b + 1)) ≡ whole
unfolding item_bits
next_bit i k w b out new whole less pushed before =
    let left : w - b ≡ suc (w - (b + 1)) = omega (arith, less) in
    let next : suc b ≡ b + 1 = omega arith in
    let cut : item_bits i k b (w - b) ≡ record { inst = i; item = k; bit = b } ∷ item_bits i k (b + 1) (w - (b + 1)) =
    ap (item_bits i k b) left ∙ ap (λ n. record { inst = i; item = k; bit = b } ∷ item_bits i k n (w - (b + 1))) next in
    ap (λ l. l ++ item_bits i k (b + 1) (w - (b + 1))) pushed ∙ append_assoc out (record { inst = i; item = k; bit = b } ∷ []) (item_bits i k (b + 1) (w - (b + 1)))
    ∙ ap (λ l. out ++ l) (sym cut) ∙ before

pub all_bits : (i k w b : ℕ) (out whole : List Bit) → w ≤ b → out ++ item_bits i k b (w - b) ≡ whole → out ≡ whole
unfolding item_bits
all_bits i k w b out whole most before =
    let none : w - b ≡ 0 = omega (arith, most) in
    sym (append-nil out) ∙ ap (λ n. out ++ item_bits i k b n) (sym none) ∙ before

-- ---- bits of a list of items

module _ {X : Type 0} (width : X → ℕ) (xs : List X) where
  pub next_item : (i k : ℕ) (x : X) (w : ℕ) (out new whole : List Bit) → k < length xs → x ≡ get_or xs k x → w ≡ width x → new ≡ out ++ item_bits i k 0 w
      → out ++ list_bits i k (map width (drop k xs)) ≡ whole → new ++ list_bits i (k + 1) (map width (drop (k + 1) xs)) ≡ whole
  unfolding list_bits
  next_item i k x w out new whole less is has added before =
      let cut : drop k xs ≡ x ∷ drop (suc k) xs = drop-cons xs k x less ∙ ap (λ y. y ∷ drop (suc k) xs) (sym is) in
      let next : suc k ≡ k + 1 = omega arith in
      let first : list_bits i k (map width (drop k xs)) ≡ item_bits i k 0 w ++ list_bits i (k + 1) (map width (drop (k + 1) xs)) =
      ap (λ l. list_bits i k (map width l)) cut ∙ ap (λ n. item_bits i k 0 (width x) ++ list_bits i n (map width (drop n xs))) next
      ∙ ap (λ v. item_bits i k 0 v ++ list_bits i (k + 1) (map width (drop (k + 1) xs))) (sym has) in
      ap (λ l. l ++ list_bits i (k + 1) (map width (drop (k + 1) xs))) added ∙ append_assoc out (item_bits i k 0 w) (list_bits i (k + 1) (map width (drop (k + 1) xs)))
      ∙ ap (λ l. out ++ l) (sym first) ∙ before

  pub all_items : (i k : ℕ) (out whole : List Bit) → length xs ≤ k → out ++ list_bits i k (map width (drop k xs)) ≡ whole → out ≡ whole
  unfolding list_bits
  all_items i k out whole most before = sym (append-nil out) ∙ ap (λ l. out ++ list_bits i k (map width l)) (sym (drop_all k xs most)) ∙ before

-- ---- bits of all instances

module _ (widths : Option LaidBlock → List ℕ) (m : MergedTop) where
  -- the bits of the instances from number i on
  abbrev pub BitsFrom : ℕ → List Bit
  BitsFrom i = bits_of i (map (λ k. widths (slice_get m.blocks k)) (drop i m.kinds))

  pub cut_bits : (i k : ℕ) (block : LaidBlock) → slice_get m.kinds i ≡ Some k → slice_get m.blocks k ≡ Some block
      → BitsFrom i ≡ list_bits i 0 (widths (Some block)) ++ BitsFrom (i + 1)
  unfolding bits_of
  cut_bits i k block is there =
      let cut : drop i m.kinds ≡ k ∷ drop (suc i) m.kinds =
      drop-cons m.kinds i k (slice_get_within m.kinds i k is) ∙ ap (λ y. y ∷ drop (suc i) m.kinds) (get_or_from_slice_get m.kinds i k k is) in
      let next : suc i ≡ i + 1 = omega arith in
      ap (λ l. bits_of i (map (λ k. widths (slice_get m.blocks k)) l)) cut
      ∙ ap (λ n. list_bits i 0 (widths (slice_get m.blocks k)) ++ bits_of n (map (λ k. widths (slice_get m.blocks k)) (drop n m.kinds))) next
      ∙ ap (λ o. list_bits i 0 (widths o) ++ BitsFrom (i + 1)) there

  pub next_instance : (i k : ℕ) (block : LaidBlock) (out new whole : List Bit) → slice_get m.kinds i ≡ Some k → slice_get m.blocks k ≡ Some block
      → new ≡ out ++ list_bits i 0 (widths (Some block)) → out ++ BitsFrom i ≡ whole → new ++ BitsFrom (i + 1) ≡ whole
  next_instance i k block out new whole is there added before =
      ap (λ l. l ++ BitsFrom (i + 1)) added ∙ append_assoc out (list_bits i 0 (widths (Some block))) (BitsFrom (i + 1))
      ∙ ap (λ l. out ++ l) (sym (cut_bits i k block is there)) ∙ before

  pub all_instances : (i : ℕ) (out whole : List Bit) → length m.kinds ≤ i → out ++ BitsFrom i ≡ whole → out ≡ whole
  unfolding bits_of
  all_instances i out whole most before = sym (append-nil out) ∙ ap (λ l. out ++ bits_of i (map (λ k. widths (slice_get m.blocks k)) l)) (sym (drop_all i m.kinds most)) ∙ before

  -- an instance has no more bits than all
  pub few_here : (i k : ℕ) (block : LaidBlock) (out whole : List Bit) → slice_get m.kinds i ≡ Some k → slice_get m.blocks k ≡ Some block
      → out ++ BitsFrom i ≡ whole → length whole ≤ 1024 → bit_count (widths (Some block)) ≤ 1024
  few_here i k block out whole is there before few =
      let all = ap length (sym before) ∙ length-append out (BitsFrom i) in
      let own = ap length (cut_bits i k block is there) ∙ length-append (list_bits i 0 (widths (Some block))) (BitsFrom (i + 1)) in
      let here = list_length i 0 (widths (Some block)) in
      omega (arith, all, own, here, few)

-- items with a bit each are no more than their bits
pub items_within : {X : Type 0} (width : X → ℕ) (xs : List X) → AllOf (λ x. 0 < width x) xs → length xs ≤ bit_count (map width xs)
items_within width [] each = omega arith
items_within width (x ∷ xs) each = let rest = items_within width xs each.1 in omega (arith, rest, each.0)

-- ---- few items

some_bits : (xs : List IntrDesc) → AllOf IsValidInterrupt xs → AllOf (λ x. 0 < x.width) xs
some_bits [] each = tt
some_bits (x ∷ xs) each = (each.0.some_bit, some_bits xs each.1)

one_bit : (xs : List AlertDesc) → AllOf (λ x. 0 < 1) xs
one_bit [] = tt
one_bit (x ∷ xs) = (omega arith, one_bit xs)

-- a block of a top with few interrupts has few interrupts
pub few_interrupts : (m : MergedTop) → HasBlocks m → (i k : ℕ) (block : LaidBlock) (out whole : List Bit) → slice_get m.kinds i ≡ Some k → slice_get m.blocks k ≡ Some block
    → out ++ BitsFrom interrupt_widths m i ≡ whole → length whole ≤ 1024 → length block.desc.intrs ≤ 1024
unfolding interrupt_widths
few_interrupts m has i k block out whole is there before few =
    let bits = few_here interrupt_widths m i k block out whole is there before few in
    let items = items_within (λ (x : IntrDesc). x.width) block.desc.intrs (some_bits block.desc.intrs (valid_block m has k block there).interrupts) in
    omega (arith, bits, items)

pub few_alerts : (m : MergedTop) (i k : ℕ) (block : LaidBlock) (out whole : List Bit) → slice_get m.kinds i ≡ Some k → slice_get m.blocks k ≡ Some block
    → out ++ BitsFrom alert_widths m i ≡ whole → length whole ≤ 1024 → length block.desc.alerts ≤ 1024
unfolding alert_widths
few_alerts m i k block out whole is there before few =
    let bits = few_here alert_widths m i k block out whole is there before few in
    let items = items_within (λ (x : AlertDesc). 1) block.desc.alerts (one_bit block.desc.alerts) in
    omega (arith, bits, items)
