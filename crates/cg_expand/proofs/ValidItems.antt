-- The items of a valid block are valid, where there is room for the fields of automatic registers.
use Rattle.std.proofs.Common.{ℕ, ◌≡◌, ◌+◌, ◌-◌, ◌<◌, ◌≤◌, zero, suc, Bool, true, false, ◌&&◌, cond, List, [], ◌∷◌, ◌++◌, map, length, sum_by, codes, refl, subst, rules, arith}
use Rattle.std.specs.List.{flat_map, range_with_len}
use Rattle.std.proofs.lemmas.Bool.{and_parts}
use Rattle.std.proofs.lemmas.List.Sums.{sum_by-cons}
use Rattle.std.proofs.lemmas.Nat.{pow_pos}
use Rattle.cg_svspec.specs.Characters.{IsWord}
use Rattle.cg_svspec.specs.Printable.{AllOf}
use Rattle.cg_desc.specs.declared.place.At.{At}
use Rattle.cg_desc.specs.declared.block.SwAccess.{SwAccess}
use Rattle.cg_desc.specs.declared.block.SwAccess.TheVariants.{Rw, Wo}
use Rattle.cg_desc.specs.declared.block.HwAccess.{HwAccess}
use Rattle.cg_desc.specs.declared.block.HwAccess.TheVariants.{Hro, Hrw}
use Rattle.cg_desc.specs.declared.block.FieldDesc.{FieldDesc}
use Rattle.cg_desc.specs.declared.block.MultiDesc.{MultiDesc}
use Rattle.cg_desc.specs.declared.block.Written.{Written}
use Rattle.cg_desc.specs.declared.block.Written.TheVariants as written
use Rattle.cg_desc.specs.declared.block.Item.{Item}
use Rattle.cg_desc.specs.declared.block.Item.TheVariants.{Reg}
use Rattle.cg_desc.specs.declared.block.IntrDesc.{IntrDesc}
use Rattle.cg_desc.specs.declared.block.AlertDesc.{AlertDesc}
use Rattle.cg_desc.specs.declared.block.FaceDesc.{FaceDesc}
use Rattle.cg_desc.specs.declared.block.BlockDesc.{BlockDesc}
use Rattle.cg_desc.specs.Items.{alert_fields, alert_registers, automatic_items, automatic_register, entry_items, has_some, interrupt_fields, interrupt_registers, items_of_block, items_of_faces, multireg_word, state_access, word_count}
use Rattle.cg_desc.specs.Laid.{FieldsFit, HasField}
use Rattle.cg_desc.specs.Valid.{IsValidAlert, IsValidBlock, IsValidEntry, IsValidInterface, IsValidInterrupt, IsValidItem, IsValidMultireg}
use Rattle.cg_expand.specs.Expands.{HasValidItems}
use Rattle.cg_expand.proofs.ValidCopies.{word_valid}

all_join : {X : Type 0} (P : X → Type 0) (xs ys : List X) → AllOf P xs → AllOf P ys → AllOf P (xs ++ ys)
all_join P [] ys first second = second
all_join P (x ∷ xs) ys first second = (first.0, all_join P xs ys first.1 second)

-- ---- automatic registers

interrupts_fit : (sw : IntrDesc → SwAccess) (hw : HwAccess) (lsb : ℕ) (is : List IntrDesc) → AllOf IsValidInterrupt is → lsb + sum_by (λ i. i.width) is ≤ 32
    → FieldsFit lsb (interrupt_fields sw hw lsb is)
unfolding interrupt_fields
interrupts_fit sw hw lsb [] valid room = tt
interrupts_fit sw hw lsb (i ∷ is) valid room =
    let bits : sum_by (λ j. j.width) (i ∷ is) ≡ i.width + sum_by (λ j. j.width) is = sum_by-cons (λ (j : IntrDesc). j.width) i is in
    let some : 0 < i.width = valid.0.some_bit in
    let next : lsb + i.width ≡ suc (lsb + i.width - 1) = omega arith in (
      valid.0.name,
      omega arith,
      omega arith,
      omega arith,
      pow_pos (suc (lsb + i.width - 1) - lsb),
      subst (λ from. FieldsFit from (interrupt_fields sw hw (lsb + i.width) is)) next (interrupts_fit sw hw (lsb + i.width) is valid.1 (omega arith)),
    )

alerts_fit : (lsb : ℕ) (as' : List AlertDesc) → AllOf IsValidAlert as' → lsb + length as' ≤ 32 → FieldsFit lsb (alert_fields lsb as')
unfolding alert_fields
alerts_fit lsb [] valid room = tt
alerts_fit lsb (a ∷ as') valid room =
    let next : lsb + 1 ≡ suc (lsb + 1 - 1) = omega arith in (
      valid.0,
      omega arith,
      omega arith,
      omega arith,
      pow_pos (suc (lsb + 1 - 1) - lsb),
      subst (λ from. FieldsFit from (alert_fields (lsb + 1) as')) next (alerts_fit (lsb + 1) as' valid.1 (omega arith)),
    )

interrupt_some : (sw : IntrDesc → SwAccess) (hw : HwAccess) (lsb : ℕ) (is : List IntrDesc) → has_some is ≡ true → HasField (interrupt_fields sw hw lsb is)
unfolding interrupt_fields
interrupt_some sw hw lsb [] some = cc
interrupt_some sw hw lsb (i ∷ is) some = tt

alert_some : (lsb : ℕ) (as' : List AlertDesc) → has_some as' ≡ true → HasField (alert_fields lsb as')
unfolding alert_fields
alert_some lsb [] some = cc
alert_some lsb (a ∷ as') some = tt

register_valid : (name : List ℕ) (fields : List FieldDesc) (hwext : Bool) (at : At) → IsWord name → HasField fields → FieldsFit 0 fields
    → IsValidItem (Reg (automatic_register name fields hwext at))
register_valid name fields hwext at word some fit = record { name = word; some_field = some; fields = fit }

-- the names are written out
three_words : IsWord (codes "INTR_STATE") × IsWord (codes "INTR_ENABLE") × IsWord (codes "INTR_TEST")
three_words = (search rules, search rules, search rules)

interrupt_registers_valid : (b : BlockDesc) → AllOf IsValidInterrupt b.intrs → sum_by (λ i. i.width) b.intrs ≤ 32 → has_some b.intrs ≡ true → AllOf IsValidItem (interrupt_registers b)
unfolding interrupt_registers
interrupt_registers_valid b valid room some = (
  register_valid (codes "INTR_STATE") _ false b.intrs_at three_words.0 (interrupt_some state_access Hrw 0 b.intrs some) (interrupts_fit state_access Hrw 0 b.intrs valid (omega arith)),
  (
    register_valid (codes "INTR_ENABLE") _ false b.intrs_at three_words.1 (interrupt_some (λ i. Rw) Hro 0 b.intrs some) (interrupts_fit (λ i. Rw) Hro 0 b.intrs valid (omega arith)),
    (
      register_valid (codes "INTR_TEST") _ true b.intrs_at three_words.2 (interrupt_some (λ i. Wo) Hro 0 b.intrs some) (interrupts_fit (λ i. Wo) Hro 0 b.intrs valid (omega arith)),
      tt,
    ),
  ),
)

alert_registers_valid : (b : BlockDesc) → AllOf IsValidAlert b.alerts → length b.alerts ≤ 32 → has_some b.alerts ≡ true → AllOf IsValidItem (alert_registers b)
unfolding alert_registers
alert_registers_valid b valid room some =
    (register_valid (codes "ALERT_TEST") _ true b.alerts_at (search rules) (alert_some 0 b.alerts some) (alerts_fit 0 b.alerts valid (omega arith)), tt)

if_there : (p : Bool) (xs : List Item) → (p ≡ true → AllOf IsValidItem xs) → AllOf IsValidItem (cond p xs [])
if_there true xs valid = valid refl
if_there false xs valid = tt

automatic_valid : (b : BlockDesc) → IsValidBlock b → sum_by (λ i. i.width) b.intrs ≤ 32 → length b.alerts ≤ 32 → AllOf IsValidItem (automatic_items b)
automatic_valid b valid interrupts alerts =
    let p : Bool = b.auto_intr && has_some b.intrs in
    let q : Bool = b.auto_alert && has_some b.alerts in
    all_join IsValidItem (cond p (interrupt_registers b) []) (cond q (alert_registers b) [])
    (if_there p (interrupt_registers b) (λ is. interrupt_registers_valid b valid.interrupts interrupts (and_parts b.auto_intr (has_some b.intrs) is).1))
    (if_there q (alert_registers b) (λ is. alert_registers_valid b valid.alerts alerts (and_parts b.auto_alert (has_some b.alerts) is).1))

-- ---- entries

words_valid : (m : MultiDesc) (a n : ℕ) → IsValidMultireg m → a + n ≤ word_count m → AllOf IsValidItem (map (λ j. Reg (multireg_word m j)) (range_with_len a n))
words_valid m a zero valid few = tt
words_valid m a (suc n) valid few = (word_valid m a valid (omega arith), words_valid m (a + 1) n valid (omega arith))

entry_valid : (e : Written) → IsValidEntry e → AllOf IsValidItem (entry_items e)
entry_valid (written.Reg r) valid = (valid, tt)
entry_valid (written.Multi m) valid = words_valid m 0 (word_count m) valid (omega arith)
entry_valid (written.Window w) valid = (valid, tt)
entry_valid (written.SkipTo to at) valid = (tt, tt)
entry_valid (written.Reserved words at) valid = (tt, tt)

entries_valid : (es : List Written) → AllOf IsValidEntry es → AllOf IsValidItem (flat_map entry_items es)
entries_valid [] valid = tt
entries_valid (e ∷ es) valid = all_join IsValidItem (entry_items e) (flat_map entry_items es) (entry_valid e valid.0) (entries_valid es valid.1)

faces_valid : (front : List Item) (ds : List FaceDesc) → AllOf IsValidItem front → AllOf IsValidInterface ds → AllOf HasValidItems (items_of_faces front ds)
unfolding items_of_faces
faces_valid front [] first valid = tt
faces_valid front (d ∷ ds) first valid =
    (all_join IsValidItem front (flat_map entry_items d.entries) first (entries_valid d.entries valid.0.entries), faces_valid [] ds tt valid.1)

pub block_valid : (b : BlockDesc) → IsValidBlock b → sum_by (λ i. i.width) b.intrs ≤ 32 → length b.alerts ≤ 32 → AllOf HasValidItems (items_of_block b)
block_valid b valid interrupts alerts = faces_valid (automatic_items b) b.faces (automatic_valid b valid interrupts alerts) valid.interfaces
