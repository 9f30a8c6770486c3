-- Each address of a laid interface is just one thing, which is what going down the rows finds.
use Rattle.std.proofs.Common.{◌≡◌, ℕ, zero, suc, ◌+◌, ◌-◌, ◌/◌, ◌<◌, ◌≤◌, Bool, true, false, List, [], ◌∷◌, Some, slice_get, refl, sym, ap, subst, ◌∙◌, inl, inr, arith, if◌then◌else◌}
use Rattle.std.proofs.lemmas.Bool.Decides.{nat_tests}
use Rattle.cg_svspec.specs.Names.{Among}
use Rattle.cg_desc.specs.Target.{Target, register, word, error, aligned, row_end, HoldsAddress, IsTarget, at_register, at_word, nowhere, holds_address, target_in, target_from, target_at}
use Rattle.cg_desc.specs.Address.{EachAddressHasOneTarget}
use Rattle.cg_desc.specs.Laid.{RowFits, RowsFit, IsLaid}
use Rattle.cg_desc.specs.declared.block.Item.{Item}
use Rattle.cg_desc.specs.declared.block.Item.TheVariants.{Reg, Window, SkipTo, Reserved}
use Rattle.cg_desc.specs.declared.block.LaidRow.{LaidRow}
use Rattle.cg_desc.specs.declared.block.LaidFace.{LaidFace}

-- ---- the test tells whether a row holds the address

holds_by_test : (row : LaidRow) (address : ℕ) → holds_address row address ≡ true → HoldsAddress row address
holds_by_test row address e = record { from_start = grind (arith, nat_tests); before_end = grind (arith, nat_tests) }

not_by_test : (row : LaidRow) (address : ℕ) → holds_address row address ≡ false → HoldsAddress row address → ⊥
not_by_test row address e holds = let low : row.first ≤ aligned address = holds.from_start in let up : aligned address < row_end row = holds.before_end in grind (arith, nat_tests)

-- ---- what is found

-- the row at which the search ends, or that no row holds the address
data Found (rows : List LaidRow) (i address : ℕ) (target : Target) : Type 0 where
  in_row : (k : ℕ) (row : LaidRow) → slice_get rows k ≡ Some row → HoldsAddress row address → target ≡ target_in (i + k) ((aligned address - row.first) / 4) row.item
      → Found rows i address target
  in_none : ((row : LaidRow) → Among row rows → HoldsAddress row address → ⊥) → target ≡ error → Found rows i address target

-- with one row more, which does not hold the address
found_later : (row : LaidRow) (rows : List LaidRow) (i address : ℕ) (target : Target) → holds_address row address ≡ false → Found rows (i + 1) address target
    → Found (row ∷ rows) i address target
found_later row rows i address target misses (in_row k found at holds is) =
    let number : i + 1 + k ≡ i + suc k = omega arith in
    in_row (suc k) found at holds (is ∙ ap (λ n. target_in n ((aligned address - found.first) / 4) found.item) number)
found_later row rows i address target misses (in_none none is) = in_none all is where
  all : (other : LaidRow) → Among other (row ∷ rows) → HoldsAddress other address → ⊥
  all other (inl e) holds = not_by_test row address misses (subst (λ r. HoldsAddress r address) e holds)
  all other (inr a) holds = none other a holds

-- going down the rows
found : (rows : List LaidRow) (i address : ℕ) → Found rows i address (target_from i rows address)
found [] i address = in_none (λ row a holds. a) refl
found (row ∷ rows) i address = by (found rows (i + 1) address) (holds_address row address) refl where
  by : Found rows (i + 1) address (target_from (i + 1) rows address) → (b : Bool) → holds_address row address ≡ b
      → Found (row ∷ rows) i address (if b then target_in i ((aligned address - row.first) / 4) row.item else target_from (i + 1) rows address)
  by later true holds = in_row 0 row refl (holds_by_test row address holds) (let number : i ≡ i + 0 = omega arith in ap (λ n. target_in n ((aligned address - row.first) / 4) row.item) number)
  by later false misses = found_later row rows i address (target_from (i + 1) rows address) misses later

-- ---- rows that fit

-- the row of a number fits
fits_at : (all : List LaidRow) (low : ℕ) (rows : List LaidRow) (k : ℕ) (row : LaidRow) → RowsFit all low rows → slice_get rows k ≡ Some row → RowFits all row
fits_at all low [] k row fit at = cc
fits_at all low (x ∷ rows) zero row fit at = let same : x ≡ row = cc in subst (RowFits all) same fit.1
fits_at all low (x ∷ rows) (suc k) row fit at = fits_at all (row_end x) rows k row fit.2 at

-- and begins at `low` or above it
begins_above : (all : List LaidRow) (low : ℕ) (rows : List LaidRow) (k : ℕ) (row : LaidRow) → RowsFit all low rows → slice_get rows k ≡ Some row → low ≤ row.first
begins_above all low [] k row fit at = cc
begins_above all low (x ∷ rows) zero row fit at = let same : x ≡ row = cc in subst (λ r. low ≤ r.first) same fit.0
begins_above all low (x ∷ rows) (suc k) row fit at = let above = begins_above all (row_end x) rows k row fit.2 at in let here = fit.0 in omega arith

-- a later row does not hold what an earlier one does
not_both : (all : List LaidRow) (x : LaidRow) (rows : List LaidRow) (k : ℕ) (row : LaidRow) (address : ℕ) → RowsFit all (row_end x) rows → slice_get rows k ≡ Some row
    → HoldsAddress x address → HoldsAddress row address → ⊥
not_both all x rows k row address fit at here there =
    let above = begins_above all (row_end x) rows k row fit at in let up = here.before_end in let low = there.from_start in omega arith

-- two rows that hold one address are one
one_row : (all : List LaidRow) (low : ℕ) (rows : List LaidRow) (j k : ℕ) (x y : LaidRow) (address : ℕ) → RowsFit all low rows → slice_get rows j ≡ Some x → slice_get rows k ≡ Some y
    → HoldsAddress x address → HoldsAddress y address → j ≡ k
one_row all low [] j k x y address fit first second here there = cc
one_row all low (row ∷ rows) zero zero x y address fit first second here there = refl
one_row all low (row ∷ rows) zero (suc k) x y address fit first second here there =
    let same : row ≡ x = cc in absurd (not_both all row rows k y address fit.2 second (subst (λ r. HoldsAddress r address) (sym same) here) there)
one_row all low (row ∷ rows) (suc j) zero x y address fit first second here there =
    let same : row ≡ y = cc in absurd (not_both all row rows j x address fit.2 first (subst (λ r. HoldsAddress r address) (sym same) there) here)
one_row all low (row ∷ rows) (suc j) (suc k) x y address fit first second here there =
    ap suc (one_row all (row_end row) rows j k x y address fit.2 first second here there)

-- the row of a number is among the rows
at_is_among : (rows : List LaidRow) (k : ℕ) (row : LaidRow) → slice_get rows k ≡ Some row → Among row rows
at_is_among [] k row at = cc
at_is_among (x ∷ rows) zero row at = let same : row ≡ x = cc in inl same
at_is_among (x ∷ rows) (suc k) row at = inr (at_is_among rows k row at)

-- ---- a target there is

-- by the item of the row that holds the address
target_by : (face : LaidFace) (address k : ℕ) (row : LaidRow) (item : Item) → row.item ≡ item → slice_get face.rows k ≡ Some row → RowFits face.rows row → HoldsAddress row address
    → IsTarget face address (target_in (0 + k) ((aligned address - row.first) / 4) item)
target_by face address k row (Reg r) is at fits holds = let number : k ≡ 0 + k = omega arith in subst (λ n. IsTarget face address (register n)) number (at_register k row r at is holds)
target_by face address k row (Window w) is at fits holds =
    let number : k ≡ 0 + k = omega arith in subst (λ n. IsTarget face address (word n ((aligned address - row.first) / 4))) number (at_word k row w at is holds)
target_by face address k row (SkipTo to place) is at fits holds = absurd (no_skip row.first row.words row.item is fits) where
  no_skip : (first words : ℕ) (item : Item) → item ≡ SkipTo to place → RowFits face.rows (record { first = first; words = words; item = item }) → ⊥
  no_skip first words (Reg r) e fits = cc
  no_skip first words (Window w) e fits = cc
  no_skip first words (SkipTo other there) e fits = fits
  no_skip first words (Reserved other there) e fits = fits
target_by face address k row (Reserved spare place) is at fits holds = absurd (no_spare row.first row.words row.item is fits) where
  no_spare : (first words : ℕ) (item : Item) → item ≡ Reserved spare place → RowFits face.rows (record { first = first; words = words; item = item }) → ⊥
  no_spare first words (Reg r) e fits = cc
  no_spare first words (Window w) e fits = cc
  no_spare first words (SkipTo other there) e fits = fits
  no_spare first words (Reserved other there) e fits = fits

-- from what is found
target_found : (face : LaidFace) (address : ℕ) (target : Target) → IsLaid face → Found face.rows 0 address target → IsTarget face address target
target_found face address target laid (in_row k row at holds is) =
    subst (IsTarget face address) (sym is) (target_by face address k row row.item refl at (fits_at face.rows 0 face.rows k row laid.rows at) holds)
target_found face address target laid (in_none none is) = subst (IsTarget face address) (sym is) (nowhere none)

-- ---- and no other

-- two targets of one address are one
one_target : (face : LaidFace) (address : ℕ) (s t : Target) → IsLaid face → IsTarget face address s → IsTarget face address t → s ≡ t
one_target face address s t laid (at_register i x r at is holds) (at_register j y q at_y is_y holds_y) =
    ap register (one_row face.rows 0 face.rows i j x y address laid.rows at at_y holds holds_y)
one_target face address s t laid (at_register i x r at is holds) (at_word j y w at_y is_y holds_y) =
    let same = one_row face.rows 0 face.rows i j x y address laid.rows at at_y holds holds_y in cc
one_target face address s t laid (at_register i x r at is holds) (nowhere none) = absurd (none x (at_is_among face.rows i x at) holds)
one_target face address s t laid (at_word i x w at is holds) (at_register j y q at_y is_y holds_y) =
    let same = one_row face.rows 0 face.rows i j x y address laid.rows at at_y holds holds_y in cc
one_target face address s t laid (at_word i x w at is holds) (at_word j y u at_y is_y holds_y) =
    let same = one_row face.rows 0 face.rows i j x y address laid.rows at at_y holds holds_y in
    let one : x ≡ y = cc in
    λ k. word (same k) ((aligned address - (one k).first) / 4)
one_target face address s t laid (at_word i x w at is holds) (nowhere none) = absurd (none x (at_is_among face.rows i x at) holds)
one_target face address s t laid (nowhere none) (at_register j y q at_y is_y holds_y) = absurd (none y (at_is_among face.rows j y at_y) holds_y)
one_target face address s t laid (nowhere none) (at_word j y w at_y is_y holds_y) = absurd (none y (at_is_among face.rows j y at_y) holds_y)
one_target face address s t laid (nowhere none) (nowhere also) = refl

-- Each address of a laid interface is just one thing.
pub each_address_has_one_target : EachAddressHasOneTarget
each_address_has_one_target face laid address =
    let there = target_found face address (target_at face address) laid (found face.rows 0 address) in
    record { there = there; one = λ target is. one_target face address target (target_at face address) laid is there }
