-- Rows at their offsets, item by item.
use Rattle.std.proofs.Common.{◌≡◌, ℕ, ◌≤◌, max, true, false, List, [], ◌∷◌, ◌++◌, Option, inl, inr, sym, subst, append_assoc, append-nil}
use Rattle.std.specs.Int.{IsNextPowerOfTwo}
use Rattle.std.proofs.lemmas.Bool.{cases_lt}
use Rattle.cg_svspec.specs.Printable.{AllOf}
use Rattle.cg_desc.specs.declared.block.Item.{Item}
use Rattle.cg_desc.specs.declared.block.LaidRow.{LaidRow}
use Rattle.cg_desc.specs.Offsets.{Ends, HasRows, IsLaidOut, IsSpan, words_of}
use Rattle.cg_desc.specs.Valid.{IsValidItem}
use Rattle.cg_finding.specs.Finding.{Finding}
use Rattle.cg_layout.specs.Inner.Extents.{Extends}
use Rattle.cg_layout.specs.Violations.{BreaksOffsets, IsSkipBack, end_limit, is_row}
use Rattle.cg_layout.proofs.Ends.{extent_ends}

-- nothing of the items is broken behind what ends at `low`
abbrev pub IsUnbroken : ℕ → List Item → Type 0
IsUnbroken low items = (f : Finding) → ¬ BreaksOffsets low items f

-- then the first item does not skip back
pub unbroken_forth : {low : ℕ} {item : Item} {items : List Item} → IsUnbroken low (item ∷ items) → ¬ IsSkipBack low item
unbroken_forth whole skips = whole _ (BreaksOffsets.back skips)

-- ends within the limit
pub unbroken_within : {low end : ℕ} {item : Item} {items : List Item} → IsUnbroken low (item ∷ items) → Ends low item end → end ≤ end_limit
unbroken_within {low} {end} whole ends = elim (cases_lt end_limit end) [
  | inl over ↦ absurd (whole _ (BreaksOffsets.past (unbroken_forth whole) ends over))
  | inr within ↦ within
]

-- and nothing is broken behind it
pub unbroken_rest : {low end : ℕ} {item : Item} {items : List Item} → IsUnbroken low (item ∷ items) → Ends low item end → IsUnbroken end items
unbroken_rest whole ends f b = whole f (BreaksOffsets.later (unbroken_forth whole) ends (unbroken_within whole ends) b)

-- an item at its offset
abbrev pub row_of : ℕ → Item → LaidRow
row_of first item = record { first = first; words = words_of item; item = item }

-- the rows of items with one more in front, which is a row
with_row : {low top first end last : ℕ} {item : Item} {items : List Item} {rows : List LaidRow} → Extends low item first end → is_row item ≡ true
    → HasRows end end items rows last → HasRows low top (item ∷ items) (row_of first item ∷ rows) last
with_row (Extends.row s p) h has = HasRows.row s p has
with_row Extends.skip h has = cc
with_row Extends.reserved h has = cc

-- or none
without_row : {low top first end last : ℕ} {item : Item} {items : List Item} {rows : List LaidRow} → Extends low item first end → is_row item ≡ false
    → HasRows end top items rows last → HasRows low top (item ∷ items) rows last
without_row (Extends.row IsSpan.register p) h has = cc
without_row (Extends.row (IsSpan.window n) p) h has = cc
without_row Extends.skip h has = HasRows.skip has
without_row Extends.reserved h has = HasRows.reserved has

-- The rows so far, where `rest` of the items are left: these and the rows of the rest are the rows of all.
pub record IsLaying (all : List Item) (low top : ℕ) (rest : List Item) (rows : List LaidRow) : Type 0 where
  pub low_within : low ≤ end_limit
  pub top_within : top ≤ end_limit
  pub valid : AllOf IsValidItem rest
  pub unbroken : IsUnbroken low rest
  pub whole : (more : List LaidRow) (last : ℕ) → HasRows low top rest more last → HasRows 0 0 all (rows ++ more) last

-- one more item
module _ {all left rest : List Item} {low top first end : ℕ} {item : Item} {rows : List LaidRow} (e : left ≡ item ∷ rest)
    (laying : IsLaying all low top left rows) (extent : Extends low item first end) where
  here : IsLaying all low top (item ∷ rest) rows
  here = subst (λ items. IsLaying all low top items rows) e laying

  pub laying_within : end ≤ end_limit
  laying_within = unbroken_within here.unbroken (extent_ends extent)

  pub laying_row : (words : ℕ) (pushed : List LaidRow) → is_row item ≡ true → words ≡ words_of item
      → pushed ≡ rows ++ record { first = first; words = words; item = item } ∷ [] → IsLaying all end end rest pushed
  laying_row words pushed h many is = record {
    low_within = laying_within;
    top_within = laying_within;
    valid = here.valid.1;
    unbroken = unbroken_rest here.unbroken (extent_ends extent);
    whole = λ more last has.
        rw (is, many, append_assoc rows (row_of first item ∷ []) more)
        (here.whole (row_of first item ∷ more) last (with_row extent h has));
  }

  pub laying_other : is_row item ≡ false → IsLaying all end top rest rows
  laying_other h = record {
    low_within = laying_within;
    top_within = laying.top_within;
    valid = here.valid.1;
    unbroken = unbroken_rest here.unbroken (extent_ends extent);
    whole = λ more last has. here.whole more last (without_row extent h has);
  }

-- no item is left
pub laying_end : {all left : List Item} {low top size : ℕ} {rows : List LaidRow} {name : Option (List ℕ)} → left ≡ [] → IsLaying all low top left rows
    → IsNextPowerOfTwo (max top 4) size → IsLaidOut all (record { name = name; rows = rows; size = size })
laying_end {all} {left} {low} {top} {size} {rows} e laying power = record {
  end = top;
  rows = subst (λ (all_rows : List LaidRow). HasRows 0 0 all all_rows top) (append-nil rows)
      (laying.whole [] top (subst (λ items. HasRows low top items [] top) (sym e) HasRows.none));
  size = power;
}
