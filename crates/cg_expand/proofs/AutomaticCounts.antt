-- The automatic registers are as many, and have as many fields, as are counted.
use Rattle.std.proofs.Common.{ℕ, ◌≡◌, ◌+◌, ◌*◌, suc, min, Bool, true, false, ◌&&◌, ◌||◌, nat_lt, cond, List, [], ◌∷◌, ◌++◌, length, sum_by, refl, sym, ap, ◌∙◌, arith}
use Rattle.std.proofs.lemmas.Bool.Decides.{nat_tests}
use Rattle.std.proofs.lemmas.List.Sums.{sum_by-append}
use Rattle.cg_svspec.specs.Printable.{AllOf}
use Rattle.cg_desc.specs.declared.block.SwAccess.{SwAccess}
use Rattle.cg_desc.specs.declared.block.SwAccess.TheVariants.{Rw, Wo}
use Rattle.cg_desc.specs.declared.block.HwAccess.{HwAccess}
use Rattle.cg_desc.specs.declared.block.HwAccess.TheVariants.{Hro, Hrw}
use Rattle.cg_desc.specs.declared.block.Item.{Item}
use Rattle.cg_desc.specs.declared.block.IntrDesc.{IntrDesc}
use Rattle.cg_desc.specs.declared.block.AlertDesc.{AlertDesc}
use Rattle.cg_desc.specs.declared.block.FaceDesc.{FaceDesc}
use Rattle.cg_desc.specs.declared.block.BlockDesc.{BlockDesc}
use Rattle.cg_desc.specs.Items.{alert_fields, alert_registers, automatic_items, has_some, interrupt_fields, interrupt_registers, items_of_faces, state_access}
use Rattle.cg_desc.specs.Valid.{IsValidInterface}
use Rattle.cg_expand.specs.Violations.{field_count, fields_in, row_count, rows_in}
use Rattle.cg_expand.specs.Parts.Sizes.{capped, face_fields, face_rows, is_too_large}
use Rattle.cg_expand.proofs.Counts.{fields_of_faces, rows_of_faces}

interrupts_length : (sw : IntrDesc → SwAccess) (hw : HwAccess) (lsb : ℕ) (is : List IntrDesc) → length (interrupt_fields sw hw lsb is) ≡ length is
unfolding interrupt_fields
interrupts_length sw hw lsb [] = refl
interrupts_length sw hw lsb (i ∷ is) = ap suc (interrupts_length sw hw (lsb + i.width) is)

alerts_length : (lsb : ℕ) (as' : List AlertDesc) → length (alert_fields lsb as') ≡ length as'
unfolding alert_fields
alerts_length lsb [] = refl
alerts_length lsb (a ∷ as') = ap suc (alerts_length (lsb + 1) as')

-- a sum over two lists, each of which may be left out
sum_over_two : (count : Item → ℕ) (p q : Bool) (xs ys : List Item)
    → sum_by count (cond p xs [] ++ cond q ys []) ≡ cond p (sum_by count xs) 0 + cond q (sum_by count ys) 0
sum_over_two count true true xs ys = sum_by-append count xs ys
sum_over_two count true false xs ys = sum_by-append count xs []
sum_over_two count false true xs ys = sum_by-append count [] ys
sum_over_two count false false xs ys = refl

interrupt_rows : (b : BlockDesc) → sum_by rows_in (interrupt_registers b) ≡ 3
unfolding interrupt_registers
interrupt_rows b = refl

alert_rows : (b : BlockDesc) → sum_by rows_in (alert_registers b) ≡ 1
unfolding alert_registers
alert_rows b = refl

interrupt_register_fields : (b : BlockDesc) → sum_by fields_in (interrupt_registers b) ≡ 3 * length b.intrs
unfolding interrupt_registers
interrupt_register_fields b =
    omega (arith, interrupts_length state_access Hrw 0 b.intrs, interrupts_length (λ i. Rw) Hro 0 b.intrs, interrupts_length (λ i. Wo) Hro 0 b.intrs)

alert_register_fields : (b : BlockDesc) → sum_by fields_in (alert_registers b) ≡ 1 * length b.alerts
unfolding alert_registers
alert_register_fields b = omega (arith, alerts_length 0 b.alerts)

pub automatic_rows : (b : BlockDesc)
    → sum_by rows_in (automatic_items b) ≡ cond (b.auto_intr && has_some b.intrs) 3 0 + cond (b.auto_alert && has_some b.alerts) 1 0
automatic_rows b =
    sum_over_two rows_in (b.auto_intr && has_some b.intrs) (b.auto_alert && has_some b.alerts) (interrupt_registers b) (alert_registers b)
    ∙ (λ i. cond (b.auto_intr && has_some b.intrs) (interrupt_rows b i) 0 + cond (b.auto_alert && has_some b.alerts) (alert_rows b i) 0)

pub automatic_fields : (b : BlockDesc)
    → sum_by fields_in (automatic_items b)
    ≡ cond (b.auto_intr && has_some b.intrs) (3 * length b.intrs) 0 + cond (b.auto_alert && has_some b.alerts) (1 * length b.alerts) 0
automatic_fields b =
    sum_over_two fields_in (b.auto_intr && has_some b.intrs) (b.auto_alert && has_some b.alerts) (interrupt_registers b) (alert_registers b)
    ∙ (λ i. cond (b.auto_intr && has_some b.intrs) (interrupt_register_fields b i) 0 + cond (b.auto_alert && has_some b.alerts) (alert_register_fields b i) 0)

-- counts that go no further than one past their limits, put together
pub capped_twice : (r s f g : ℕ) → capped (min r 2049 + min s 2049) (min f 4097 + min g 4097) ≡ capped (r + s) (f + g)
capped_twice r s f g =
    let rows : min (min r 2049 + min s 2049) 2049 ≡ min (r + s) 2049 = omega arith in
    let fields : min (min f 4097 + min g 4097) 4097 ≡ min (f + g) 4097 = omega arith in
    λ i. record { rows = rows i; fields = fields i }

-- a limit is passed as far as is counted exactly where it is passed
past : (n most : ℕ) → nat_lt most (min n (most + 1)) ≡ nat_lt most n
past n most = grind (arith, nat_tests)

-- a block's size, by what stands in its first interface
pub size_of_faces : (front : List Item) (fs : List FaceDesc) → AllOf IsValidInterface fs → has_some fs ≡ true
    → (nat_lt 2048 (min (sum_by rows_in front + sum_by face_rows fs) 2049) || nat_lt 4096 (min (sum_by fields_in front + sum_by face_fields fs) 4097))
    ≡ is_too_large (items_of_faces front fs)
unfolding row_count field_count
size_of_faces front [] valid some = cc
size_of_faces front (f ∷ fs) valid some = λ i.
    (past (sum_by rows_in front + sum_by face_rows (f ∷ fs)) 2048 ∙ ap (nat_lt 2048) (sym (rows_of_faces front f fs))) i
    || (past (sum_by fields_in front + sum_by face_fields (f ∷ fs)) 4096 ∙ ap (nat_lt 4096) (sym (fields_of_faces front f fs valid))) i

-- a block without an interface
pub no_faces : (front : List Item) (fs : List FaceDesc) → fs ≡ [] → false ≡ is_too_large (items_of_faces front fs)
unfolding row_count field_count items_of_faces
no_faces front [] none = refl
no_faces front (f ∷ fs) none = cc

-- a list that is not empty has some item
pub some_unless_empty : (fs : List FaceDesc) → (fs ≡ [] → ⊥) → has_some fs ≡ true
some_unless_empty [] not_empty = absurd (not_empty refl)
some_unless_empty (f ∷ fs) not_empty = refl
