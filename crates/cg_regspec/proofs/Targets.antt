-- The target of an address is at just the row that holds it.
use Rattle.std.proofs.Common.{◌≡◌, ℕ, ◌+◌, ◌-◌, ◌*◌, ◌/◌, ◌<◌, ◌≤◌, Bool, true, false, List, [], ◌∷◌, refl, sym, ◌∙◌, arith, if◌then◌else◌}
use Rattle.std.proofs.lemmas.Bool.Decides.{nat_tests}
use Rattle.std.proofs.lemmas.Bool.{ne_eqb, eq-eqb}
use Rattle.cg_desc.specs.Target.{Target, aligned, holds_address, target_in, target_from}
use Rattle.cg_desc.specs.BlockStep.{is_at}
use Rattle.cg_desc.specs.Laid.{RowFits, RowsFit}
use Rattle.cg_desc.specs.declared.block.Item.{Item}
use Rattle.cg_desc.specs.declared.block.Item.TheVariants.{Reg, Window, SkipTo, Reserved}
use Rattle.cg_desc.specs.declared.block.LaidRow.{LaidRow}

-- How the target stands to the rows from number i on, which begin at offset `low`: it is still looked for there, or it is at an
-- earlier row, and the address lies below them.
data Stands (target : Target) (i low : ℕ) (rows : List LaidRow) (address : ℕ) : Type 0 where
  ahead : target ≡ target_from i rows address → Stands target i low rows address
  behind : ((j : ℕ) → i ≤ j → is_at target j ≡ false) → aligned address < low → Stands target i low rows address

-- what is held by row i is at no earlier row
in_later : (i k index : ℕ) (item : Item) → k < i → is_at (target_in i index item) k ≡ false
in_later i k index (Reg r) below = ne_eqb i k (λ e. omega arith)
in_later i k index (Window w) below = ne_eqb i k (λ e. omega arith)
in_later i k index (SkipTo to at) below = refl
in_later i k index (Reserved words at) below = refl

-- a target by a test is at no row where neither choice is
at_either : (b : Bool) (x y : Target) (k : ℕ) → is_at x k ≡ false → is_at y k ≡ false → is_at (if b then x else y) k ≡ false
at_either true x y k e f = e
at_either false x y k e f = f

-- no target among the rows from number i on is at an earlier row
from_later : (i k address : ℕ) (rows : List LaidRow) → k < i → is_at (target_from i rows address) k ≡ false
from_later i k address [] below = refl
from_later i k address (row ∷ rows) below =
    at_either (holds_address row address) _ _ k (in_later i k ((aligned address - row.first) / 4) row.item below) (from_later (i + 1) k address rows (omega arith))

-- what is held by a row that fits is at it
in_row : (all : List LaidRow) (i index first words : ℕ) (item : Item) → RowFits all (record { first = first; words = words; item = item }) → is_at (target_in i index item) i ≡ true
in_row all i index first words (Reg r) fits = eq-eqb i i refl
in_row all i index first words (Window w) fits = eq-eqb i i refl
in_row all i index first words (SkipTo to at) fits = absurd fits
in_row all i index first words (Reserved spare at) fits = absurd fits

-- it is at no later row
not_later : (i index j : ℕ) (item : Item) → i < j → is_at (target_in i index item) j ≡ false
not_later i index j (Reg r) below = ne_eqb i j (λ e. omega arith)
not_later i index j (Window w) below = ne_eqb i j (λ e. omega arith)
not_later i index j (SkipTo to at) below = refl
not_later i index j (Reserved words at) below = refl

-- a row that begins above the address does not hold it
below_row : (row : LaidRow) (address low : ℕ) → aligned address < low → low ≤ row.first → holds_address row address ≡ false
below_row row address low below up = grind (arith, nat_tests)

-- a row that holds the address ends above it
above_row : (row : LaidRow) (address : ℕ) → holds_address row address ≡ true → aligned address < row.first + 4 * row.words
above_row row address holds = grind (arith, nat_tests)

-- how it stands to the first row, and to the later ones
record Goes (target : Target) (i low : ℕ) (row : LaidRow) (rows : List LaidRow) (address : ℕ) : Type 0 where
  here : holds_address row address ≡ is_at target i
  later : Stands target (i + 1) low rows address

-- by whether the row holds the address, where the target is still looked for
goes_by : (all : List LaidRow) (target : Target) (i low address : ℕ) (row : LaidRow) (rows : List LaidRow) → RowFits all row
    → (b : Bool) → holds_address row address ≡ b → target ≡ (if b then target_in i ((aligned address - row.first) / 4) row.item else target_from (i + 1) rows address)
    → Goes target i (row.first + 4 * row.words) row rows address
goes_by all target i low address row rows fits true holds is = record {
  here = rw (holds, is) (sym (in_row all i ((aligned address - row.first) / 4) row.first row.words row.item fits));
  later = behind (λ j above. rw is (not_later i ((aligned address - row.first) / 4) j row.item (omega arith))) (above_row row address holds);
}
goes_by all target i low address row rows fits false misses is = record {
  here = rw (misses, is) (sym (from_later (i + 1) i address rows (omega arith)));
  later = ahead is;
}

-- in both cases
goes : (all : List LaidRow) (target : Target) (i low address : ℕ) (row : LaidRow) (rows : List LaidRow) → low ≤ row.first → RowFits all row
    → Stands target i low (row ∷ rows) address → Goes target i (row.first + 4 * row.words) row rows address
goes all target i low address row rows up fits (ahead is) = goes_by all target i low address row rows fits (holds_address row address) refl is
goes all target i low address row rows up fits (behind past below) = record {
  here = below_row row address low below up ∙ sym (past i (omega arith));
  later = behind (λ j above. past j (omega arith)) (omega arith);
}

-- each row from number i on holds the address exactly where the target is at it
abbrev pub AtTheirRows : Target → ℕ → ℕ → List LaidRow → Type 0
AtTheirRows target address i [] = Unit {0}
AtTheirRows target address i (row ∷ rows) = (holds_address row address ≡ is_at target i) × AtTheirRows target address (i + 1) rows

-- from the rows' places, by going down the list
at_their_rows : (all : List LaidRow) (target : Target) (i low address : ℕ) (rows : List LaidRow) → RowsFit all low rows → Stands target i low rows address
    → AtTheirRows target address i rows
at_their_rows all target i low address [] fit stands = tt
at_their_rows all target i low address (row ∷ rows) fit stands =
    let goes_on = goes all target i low address row rows fit.0 fit.1 stands in
    (goes_on.here, at_their_rows all target (i + 1) (row.first + 4 * row.words) address rows fit.2 goes_on.later)

-- for all rows of an interface
pub at_rows : (all : List LaidRow) (address : ℕ) (rows : List LaidRow) → RowsFit all 0 rows → AtTheirRows (target_from 0 rows address) address 0 rows
at_rows all address rows fit = at_their_rows all (target_from 0 rows address) 0 0 address rows fit (ahead refl)
