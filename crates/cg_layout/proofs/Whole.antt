-- A block that breaks no rule is laid out whole.
use Rattle.std.proofs.Common.{◌≡◌, ℕ, max, ◌+◌, ◌-◌, ◌*◌, ◌^◌, ◌<◌, ◌≤◌, Bool, true, false, cond, List, [], ◌∷◌, ◌⊎◌, inl, inr, Option, Some, None, refl, sym, ap, subst, ◌∙◌, arith}
use Rattle.std.specs.Int.{IsNextPowerOfTwo}
use Rattle.std.specs.List.{Contains}
use Rattle.std.proofs.lemmas.Bool.{cases_lt}
use Rattle.std.proofs.lemmas.Nat.{pow-add, pow_below}
use Rattle.std.proofs.Math.Pow.{pow_mono}
use Rattle.cg_base.specs.Arithmetic.{IsLeastMultiple}
use Rattle.cg_svspec.specs.Printable.{AllOf}
use Rattle.cg_desc.specs.Gates.{has_name, register_named}
use Rattle.cg_desc.specs.declared.block.RegDesc.{RegDesc}
use Rattle.cg_desc.specs.declared.block.WindowDesc.{WindowDesc}
use Rattle.cg_desc.specs.declared.block.Item.{Item}
use Rattle.cg_desc.specs.declared.block.Item.TheVariants.{Reg}
use Rattle.cg_desc.specs.declared.block.FaceDesc.{FaceDesc}
use Rattle.cg_desc.specs.declared.block.FaceItems.{FaceItems}
use Rattle.cg_desc.specs.declared.block.LaidRow.{LaidRow}
use Rattle.cg_desc.specs.declared.block.LaidFace.{LaidFace}
use Rattle.cg_desc.specs.declared.block.LaidBlock.{LaidBlock}
use Rattle.cg_desc.specs.declared.block.BlockDesc.{BlockDesc}
use Rattle.cg_desc.specs.Items.{items_of_block}
use Rattle.cg_desc.specs.Laid.{LastEnds, GateFits, HasRow, IsGateAt, IsLaid, RowFits, RowsFit, WindowFits}
use Rattle.cg_desc.specs.Offsets.{Ends, HasRows, IsLaidOut, IsSpan}
use Rattle.cg_desc.specs.Valid.{IsValidItem, IsValidRegister, IsValidWindow}
use Rattle.cg_finding.specs.Finding.{Among, Finding}
use Rattle.cg_layout.specs.Inner.Gates.{has_row}
use Rattle.cg_layout.specs.Lays.{AreLaidOut, IsLaidBlock}
use Rattle.cg_desc.specs.Gates.{is_gate, register_among}
use Rattle.cg_layout.specs.Violations.{BreaksIn, Violates, end_limit}
use Rattle.cg_layout.proofs.Ends.{power_within}
use Rattle.cg_layout.proofs.Faces.{some_violates}
use Rattle.cg_layout.proofs.Gating.{row_missing}
use Rattle.cg_layout.proofs.Laying.{IsUnbroken, row_of, unbroken_forth, unbroken_rest, unbroken_within}
use Rattle.cg_layout.proofs.Lists.{contains}
use Rattle.cg_layout.proofs.Placing.{AreUnbroken, AreValid, unbroken_first, unbroken_later}

-- ---- gates

-- the rows have the registers of the items
named_alike : {low top end : ℕ} {items : List Item} {rows : List LaidRow} → HasRows low top items rows end → (name : List ℕ)
    → register_named rows name ≡ register_among items name
named_alike HasRows.none name = refl
named_alike (HasRows.row (IsSpan.register {r}) p has) name = ap (λ later. cond (has_name r name) (Some r) later) (named_alike has name)
named_alike (HasRows.row (IsSpan.window n) p has) name = named_alike has name
named_alike (HasRows.skip has) name = named_alike has name
named_alike (HasRows.reserved has) name = named_alike has name

-- an interface breaks nothing
abbrev IsGood : FaceDesc → List Item → Type 0
IsGood face items = (f : Finding) → ¬ BreaksIn face items f

-- there the register that a register names is a gate
module _ (face : FaceDesc) (items : List Item) (good : IsGood face items) (r : RegDesc) (has : Contains items (Reg r)) where
  is_gate_by : (name : List ℕ) (g : RegDesc) (b : Bool) → r.regwen ≡ Some name → register_among items name ≡ Some g → is_gate g ≡ b → is_gate g ≡ true
  is_gate_by name g true e is h = h
  is_gate_by name g false e is h = absurd (good _ (BreaksIn.bad_regwen r g has e is h))

  gate_there : (name : List ℕ) (gate : Option RegDesc) → r.regwen ≡ Some name → register_among items name ≡ gate → IsGateAt gate
  gate_there name None e is = absurd (good _ (BreaksIn.unknown_regwen r has e is))
  gate_there name (Some g) e is = is_gate_by name g (is_gate g) e is refl

  gate_fits : {low top end : ℕ} {rows : List LaidRow} (regwen : Option (List ℕ)) → r.regwen ≡ regwen → HasRows low top items rows end → GateFits rows regwen
  gate_fits None e rows = tt
  gate_fits (Some name) e rows = subst IsGateAt (sym (named_alike rows name)) (gate_there name (register_among items name) e refl)

-- ---- rows

-- a register at a multiple of 4
register_fits : (all : List LaidRow) (low first : ℕ) (r : RegDesc) → IsLeastMultiple 4 low first → IsValidRegister r → GateFits all r.regwen
    → RowFits all (row_of first (Reg r))
register_fits all low first r p valid gate =
    (refl, (p.multiple.0, omega (arith, p.multiple.1)), record { name = valid.name; some_field = valid.some_field; fields = valid.fields; gate = gate })

-- a power of two that is at least 4 is 4 times one
at_least_2 : (k : ℕ) → 4 ≤ 2 ^ k → (k < 2) ⊎ (2 ≤ k) → 2 ≤ k
at_least_2 k h (inl less) = let low : 2 ^ k ≤ 2 ^ 1 = pow_mono {i = k} {j = 1} (omega arith) in absurd (omega arith)
at_least_2 k h (inr more) = more

quarter : (k : ℕ) → 2 ≤ k → 2 ^ k ≡ 4 * 2 ^ (k - 2)
quarter k h = let e : 2 + (k - 2) ≡ k = omega arith in ap (λ n. 2 ^ n) (sym e) ∙ pow-add 2 2 (k - 2)

at_most_24 : (k : ℕ) → 2 ^ k ≤ 2 ^ 24 → (24 < k) ⊎ (k ≤ 24) → k ≤ 24
at_most_24 k h (inl over) = absurd (omega (arith, pow_below 24 k over))
at_most_24 k h (inr within) = within

four_first : (turn x : ℕ) → turn * (4 * x) ≡ 4 * (x * turn)
four_first turn x = omega arith

-- a window at a multiple of a power of two that its words fit in
window_fits_by : (k low first : ℕ) (w : WindowDesc) → 4 * w.items ≤ 2 ^ k → 2 ^ k ≤ 2 ^ 24 → IsLeastMultiple (2 ^ k) low first → IsValidWindow w → WindowFits first w
window_fits_by k low first w reaches within p valid =
    let some = valid.some_item in
    let two : 2 ≤ k = at_least_2 k (omega arith) (cases_lt k 2) in
    let e : 2 ^ k ≡ 4 * 2 ^ (k - 2) = quarter k two in
    let most : k ≤ 24 = at_most_24 k within (cases_lt 24 k) in record {
      name = valid.name;
      access = valid.access;
      some_item = valid.some_item;
      few_items = valid.few_items;
      power = k - 2;
      covers = omega arith;
      few = omega arith;
      turn = p.multiple.0;
      aligned = p.multiple.1 ∙ ap (λ n. p.multiple.0 * n) e ∙ four_first p.multiple.0 (2 ^ (k - 2));
    }

-- a window at a multiple of its span
window_fits : (low first bytes : ℕ) (w : WindowDesc) → IsNextPowerOfTwo (4 * w.items) bytes → IsLeastMultiple bytes low first → IsValidWindow w → WindowFits first w
window_fits low first bytes w n p valid =
    let within : bytes ≤ 2 ^ 24 = power_within (4 * w.items) bytes 24 n (omega (arith, valid.few_items)) in
    window_fits_by n.0.0 low first w (subst (λ x. 4 * w.items ≤ x) n.0.1 n.1) (subst (λ x. x ≤ 2 ^ 24) n.0.1 within)
    (subst (λ x. IsLeastMultiple x low first) n.0.1 p) valid

-- the registers among the items have their gates among the rows
abbrev HaveGates : List LaidRow → List Item → Type 0
HaveGates all items = (r : RegDesc) → Among (Reg r) items → GateFits all r.regwen

-- rows from an offset on
rows_fit : {low top end : ℕ} {items : List Item} {rows : List LaidRow} (all : List LaidRow) (from : ℕ) → HasRows low top items rows end → from ≤ low
    → low ≤ end_limit → IsUnbroken low items → AllOf IsValidItem items → HaveGates all items → RowsFit all from rows
rows_fit all from HasRows.none above within unbroken valid gates = omega arith
rows_fit {low} all from (HasRows.row {first} (IsSpan.register {r}) p has) above within unbroken valid gates =
    let ends = Ends.row IsSpan.register p in (
      omega (arith, p.reaches),
      register_fits all low first r p valid.0 (gates r (inl refl)),
      rows_fit all (first + 4) has (omega arith) (unbroken_within unbroken ends) (unbroken_rest unbroken ends) valid.1 (λ s among. gates s (inr among)),
    )
rows_fit {low} all from (HasRows.row {span} {first} (IsSpan.window {w} n) p has) above within unbroken valid gates =
    let ends = Ends.row (IsSpan.window n) p in (
      omega (arith, p.reaches),
      (refl, window_fits low first span w n p valid.0),
      rows_fit all (first + 4 * w.items) has (omega (arith, n.1)) (unbroken_within unbroken ends) (unbroken_rest unbroken ends) valid.1 (λ s among. gates s (inr among)),
    )
rows_fit {low} all from (HasRows.skip {to} has) above within unbroken valid gates =
    let ahead : low ≤ to = elim (cases_lt to low) [ inl less ↦ absurd (unbroken_forth unbroken (inr less)) | inr more ↦ more ] in
    rows_fit all from has (omega arith) (unbroken_within unbroken Ends.skip) (unbroken_rest unbroken Ends.skip) valid.1 (λ s among. gates s (inr among))
rows_fit all from (HasRows.reserved has) above within unbroken valid gates =
    rows_fit all from has (omega arith) (unbroken_within unbroken Ends.reserved) (unbroken_rest unbroken Ends.reserved) valid.1 (λ s among. gates s (inr among))

-- there is a row, or no item is one
rows_there : {low top end : ℕ} {items : List Item} {rows : List LaidRow} → HasRows low top items rows end → HasRow rows ⊎ (has_row items ≡ false)
rows_there HasRows.none = inr refl
rows_there (HasRows.row s p has) = inl tt
rows_there (HasRows.skip has) = rows_there has
rows_there (HasRows.reserved has) = rows_there has

-- ---- sizes

-- the last row ends here, or there is none and this is where the last one before ended
abbrev EndsAfter : ℕ → List LaidRow → ℕ → Type 0
EndsAfter top [] end = end ≡ top
EndsAfter top (row ∷ rows) end = LastEnds (row ∷ rows) end

-- the last of a row and those behind it
last_of : {span end : ℕ} (row : LaidRow) (rows : List LaidRow) → IsSpan row.item span → EndsAfter (row.first + span) rows end → LastEnds (row ∷ rows) end
last_of row [] span is = subst (LastEnds (row ∷ [])) (sym is) (LastEnds.last span)
last_of row (next ∷ rows) span ends = LastEnds.later ends

rows_end : {low top end : ℕ} {items : List Item} {rows : List LaidRow} → HasRows low top items rows end → EndsAfter top rows end
rows_end HasRows.none = refl
rows_end (HasRows.row {first} {item} {rows} s p has) = last_of (row_of first item) rows s (rows_end has)
rows_end (HasRows.skip has) = rows_end has
rows_end (HasRows.reserved has) = rows_end has

last_ends : {end : ℕ} (rows : List LaidRow) → HasRow rows → EndsAfter 0 rows end → LastEnds rows end
last_ends [] some ends = absurd some
last_ends (row ∷ rows) some ends = ends

-- where items break nothing, the last row ends within the limit
end_within : {low top end : ℕ} {items : List Item} {rows : List LaidRow} → HasRows low top items rows end → top ≤ end_limit → IsUnbroken low items → end ≤ end_limit
end_within HasRows.none within unbroken = within
end_within (HasRows.row s p has) within unbroken =
    let ends = Ends.row s p in end_within has (unbroken_within unbroken ends) (unbroken_rest unbroken ends)
end_within (HasRows.skip has) within unbroken = end_within has within (unbroken_rest unbroken Ends.skip)
end_within (HasRows.reserved has) within unbroken = end_within has within (unbroken_rest unbroken Ends.reserved)

size_within : (end size : ℕ) → IsNextPowerOfTwo (max end 4) size → end ≤ end_limit → size ≤ 2 ^ 24
size_within end size is within = power_within (max end 4) size 24 is (omega arith)

-- ---- interfaces

-- an interface that breaks nothing is whole
face_laid : (face : FaceDesc) (items : List Item) (l : LaidFace) → IsGood face items → AllOf IsValidItem items → IsLaidOut items l → IsLaid l
face_laid face items l good valid is =
    let unbroken : IsUnbroken 0 items = λ f breaks. good f (BreaksIn.offsets breaks) in
    let some : HasRow l.rows = elim (rows_there is.rows) [
      | inl row ↦ row
      | inr none ↦ absurd (good _ (BreaksIn.no_row (row_missing items none)))
    ] in
    record {
      some_row = some;
      rows = rows_fit l.rows 0 is.rows (omega arith) (omega arith) unbroken valid
          (λ r among. gate_fits face items good r (contains items (Reg r) among) r.regwen refl is.rows);
      end = is.end;
      ends = last_ends l.rows some (rows_end is.rows);
      size = is.size;
      few_bytes = size_within is.end l.size is.size (end_within is.rows (omega arith) unbroken);
    }

-- so are several
all_laid : (faces : List FaceDesc) (items : List FaceItems) (laid : List LaidFace) → AreUnbroken faces items → AreValid items → AreLaidOut faces items laid
    → AllOf IsLaid laid
all_laid [] [] [] unbroken valid is = tt
all_laid [] [] (l ∷ laid) unbroken valid is = absurd is
all_laid [] (i ∷ items) laid unbroken valid is = absurd is
all_laid (f ∷ faces) [] laid unbroken valid is = absurd is
all_laid (f ∷ faces) (i ∷ items) [] unbroken valid is = absurd is
all_laid (f ∷ faces) (i ∷ items) (l ∷ laid) unbroken valid is = (
  face_laid f i.items l (unbroken_first f faces i items unbroken) valid.0 is.1,
  all_laid faces items laid (unbroken_later f faces i items unbroken) valid.1 is.2,
)

-- the interfaces of a block that breaks no rule are whole
pub laid_faces : (b : BlockDesc) (l : LaidBlock) → AllOf (λ face. AllOf IsValidItem face.items) (items_of_block b) → ((f : Finding) → ¬ Violates b f) → IsLaidBlock b l → AllOf IsLaid l.faces
laid_faces b l valid good is =
    all_laid b.faces (items_of_block b) l.faces (λ f one. good f (some_violates b f one)) valid is.interfaces
