-- The rows of a laid interface: how many there are, where they end, and that no two have one offset.
use Rattle.std.proofs.Common.{◌≡◌, ℕ, zero, suc, ◌+◌, ◌*◌, ◌<◌, ◌≤◌, ◌^◌, max, List, [], ◌∷◌, Some, length, slice_get, refl, sym, ap, subst, arith}
use Rattle.cg_desc.specs.Laid.{IsLaid, LastEnds, RowFits, RowsFit}
use Rattle.cg_desc.specs.Offsets.{IsSpan}
use Rattle.cg_desc.specs.Target.{row_end}
use Rattle.cg_desc.specs.declared.block.Item.{Item}
use Rattle.cg_desc.specs.declared.block.Item.TheVariants.{Reg, Window, SkipTo, Reserved}
use Rattle.cg_desc.specs.declared.block.LaidFace.{LaidFace}
use Rattle.cg_desc.specs.declared.block.LaidRow.{LaidRow}

-- ---- a row has words, and they are within its span

words_by : (all : List LaidRow) (row : LaidRow) (item : Item) → row.item ≡ item → RowFits all row → 0 < row.words
words_by all row (Reg r) is fits = let here = rw is at fits in omega (arith, here.0)
words_by all row (Window w) is fits = let here = rw is at fits in omega (arith, here.0, here.1.some_item)
words_by all row (SkipTo to place) is fits = absurd (rw is at fits)
words_by all row (Reserved words place) is fits = absurd (rw is at fits)

pub some_words : (all : List LaidRow) (row : LaidRow) → RowFits all row → 0 < row.words
some_words all row fits = words_by all row row.item refl fits

span_by : (all : List LaidRow) (row : LaidRow) (item : Item) (span : ℕ) → row.item ≡ item → IsSpan item span → RowFits all row → 4 * row.words ≤ span
span_by all row (Reg r) span is IsSpan.register fits = let here = rw is at fits in omega (arith, here.0)
span_by all row (SkipTo to place) span is s fits = absurd (rw is at fits)
span_by all row (Reserved words place) span is s fits = absurd (rw is at fits)
span_by all row (Window w) span is (IsSpan.window next) fits = let here = rw is at fits in omega (arith, here.0, next.1)

-- ---- where rows end

pub rows_few : (all : List LaidRow) (low : ℕ) (rows : List LaidRow) → RowsFit all low rows → low + 4 * length rows ≤ 2 ^ 24
rows_few all low [] fit = omega (arith, fit)
rows_few all low (x ∷ rows) fit = omega (arith, fit.0, some_words all x fit.1, rows_few all (row_end x) rows fit.2)

ends_below : (all : List LaidRow) (low : ℕ) (rows : List LaidRow) (end k : ℕ) (row : LaidRow) → RowsFit all low rows → LastEnds rows end → slice_get rows k ≡ Some row → row_end row ≤ end
ends_below all low [] end k row fit ends at = elim ends [ ]
ends_below all low (x ∷ []) end zero row fit (LastEnds.last {span = span} is) at =
    let same : x ≡ row = cc in
    subst (λ (r : LaidRow). row_end r ≤ x.first + span) same (omega (arith, span_by all x x.item span refl is fit.1))
ends_below all low (x ∷ []) end (suc k) row fit (LastEnds.last is) at = absurd cc
ends_below all low (x ∷ next ∷ rows) end zero row fit (LastEnds.later ends) at =
    let same : x ≡ row = cc in
    let up = ends_below all (row_end x) (next ∷ rows) end zero next fit.2 ends refl in
    subst (λ (r : LaidRow). row_end r ≤ end) same (omega (arith, up, fit.2.0))
ends_below all low (x ∷ next ∷ rows) end (suc k) row fit (LastEnds.later ends) at = ends_below all (row_end x) (next ∷ rows) end k row fit.2 ends at

pub row_within : (face : LaidFace) (k : ℕ) (row : LaidRow) → IsLaid face → slice_get face.rows k ≡ Some row → row_end row ≤ face.size
row_within face k row laid at =
    let up : row_end row ≤ laid.end = ends_below face.rows 0 face.rows laid.end k row laid.rows laid.ends at in
    let size : max laid.end 4 ≤ face.size = laid.size.1 in
    omega (arith, up, size)

-- ---- no two have one offset

starts_above : (all : List LaidRow) (low : ℕ) (rows : List LaidRow) (k : ℕ) (row : LaidRow) → RowsFit all low rows → slice_get rows k ≡ Some row → low ≤ row.first
starts_above all low [] k row fit at = absurd cc
starts_above all low (x ∷ rows) zero row fit at = let same : x ≡ row = cc in subst (λ (r : LaidRow). low ≤ r.first) same fit.0
starts_above all low (x ∷ rows) (suc k) row fit at = omega (arith, fit.0, starts_above all (row_end x) rows k row fit.2 at)

-- over the base b, the row holds the address
abbrev pub Over : ℕ → LaidRow → ℕ → Type 0
Over b row a = (b + row.first ≤ a) × (a < b + row_end row)

pub one_laid : (all : List LaidRow) (low : ℕ) (rows : List LaidRow) (b a j k : ℕ) (x y : LaidRow) → RowsFit all low rows → slice_get rows j ≡ Some x → slice_get rows k ≡ Some y
    → Over b x a → Over b y a → j ≡ k
one_laid all low [] b a j k x y fit p q over under = absurd cc
one_laid all low (z ∷ rows) b a zero zero x y fit p q over under = refl
one_laid all low (z ∷ rows) b a zero (suc k) x y fit p q over under =
    let same : z ≡ x = cc in
    let here : Over b z a = subst (λ (r : LaidRow). Over b r a) (sym same) over in
    absurd (omega (arith, here.1, under.0, starts_above all (row_end z) rows k y fit.2 q))
one_laid all low (z ∷ rows) b a (suc j) zero x y fit p q over under =
    let same : z ≡ y = cc in
    let here : Over b z a = subst (λ (r : LaidRow). Over b r a) (sym same) under in
    absurd (omega (arith, here.1, over.0, starts_above all (row_end z) rows j x fit.2 p))
one_laid all low (z ∷ rows) b a (suc j) (suc k) x y fit p q over under = ap suc (one_laid all (row_end z) rows b a j k x y fit.2 p q over under)
