-- The wires of all rows of a face.
use Rattle.std.proofs.Common.{◌≡◌, ℕ, suc, ◌+◌, ◌-◌, ◌*◌, ◌≤◌, ◌^◌, eqb, false, List, [], ◌∷◌, refl, ap, ◌∙◌, arith, Some}
use Rattle.std.proofs.lemmas.Bool.{ne_eqb}
use Rattle.cg_svspec.specs.Tree.{Expression, net}
use Rattle.cg_svspec.specs.Value.{Values, AllHold}
use Rattle.cg_desc.specs.Target.{Target, target_at}
use Rattle.cg_desc.specs.BlockStep.{Access, Fields, Hardware, item_at, is_at}
use Rattle.cg_desc.specs.Laid.{RowsFit}
use Rattle.cg_desc.specs.declared.block.LaidRow.{LaidRow}
use Rattle.cg_desc.specs.declared.block.LaidFace.{LaidFace}
use Rattle.cg_regspec.specs.NetNames.{rd}
use Rattle.cg_regspec.specs.RegisterModule.{row_entries, rows_entries, all_ones}
use Rattle.cg_regspec.specs.Meaning.{fields_in, hardware_in}
use Rattle.cg_svspec.proofs.Parts.{hold_back}
use Rattle.cg_regspec.proofs.Targets.{AtTheirRows, at_rows}
use Rattle.cg_regspec.proofs.Wires.{CarryAccess, RowsWires}
use Rattle.cg_regspec.proofs.Rows.{RowHolds, row_holds}
use Rattle.cg_regspec.proofs.Items.{row_tells}

-- the wires of all rows from number i on
abbrev pub RowsHold : Values → LaidFace → Target → Access → Fields → Hardware → ℕ → Expression → List LaidRow → Type 0
RowsHold v face target a fields hardware i before [] = Unit {0}
RowsHold v face target a fields hardware i before (row ∷ rows) =
    RowHolds v face target a fields hardware i before row.item × RowsHold v face target a fields hardware (i + 1) (net (rd i)) rows

-- the rows from number i on are these
abbrev pub AreFrom : List LaidRow → ℕ → List LaidRow → Type 0
AreFrom all i rows = (k : ℕ) → item_at all (i + k) ≡ item_at rows k

-- the first of them
first_of_them : (all : List LaidRow) (i : ℕ) (row : LaidRow) (rows : List LaidRow) → AreFrom all i (row ∷ rows) → item_at all i ≡ Some row.item
first_of_them all i row rows are = let same : i ≡ i + 0 = omega arith in ap (item_at all) same ∙ are 0

-- and those after it
rest_of_them : (all : List LaidRow) (i : ℕ) (row : LaidRow) (rows : List LaidRow) → AreFrom all i (row ∷ rows) → AreFrom all (i + 1) rows
rest_of_them all i row rows are k =
    let same : i + 1 + k ≡ i + suc k = omega arith in
    let back : suc k - 1 ≡ k = omega arith in
    let some : eqb (suc k) 0 ≡ false = ne_eqb (suc k) 0 (λ e. omega arith) in
    rw same (are (suc k) ∙ rw (some, back) refl)

-- no row ends above 2^24
end_low : (all : List LaidRow) (low : ℕ) (rows : List LaidRow) → RowsFit all low rows → low ≤ 2 ^ 24
end_low all low [] fit = fit
end_low all low (row ∷ rows) fit = let rest = end_low all (row.first + 4 * row.words) rows fit.2 in omega (arith, fit.0)

-- the wires of the rows from number i on
rows_hold_from : (v state next inputs : Values) (face : LaidFace) (target : Target) (a : Access) (i low : ℕ) (before : Expression) (rows : List LaidRow) → CarryAccess v a
    → RowsWires v state next inputs face.rows → RowsWires v state next inputs rows → RowsFit face.rows low rows → AtTheirRows target a.address i rows → AreFrom face.rows i rows
    → AllHold v state next (rows_entries face.rows i before rows) → RowsHold v face target a (fields_in state) (hardware_in inputs) i before rows
rows_hold_from v state next inputs face target a i low before [] carry all wires fit at are holds = tt
rows_hold_from v state next inputs face target a i low before (row ∷ rows) carry all wires fit at are holds =
    let tells = row_tells v state next inputs face a row (is_at target i) carry all wires.0 fit.1 (end_low face.rows (row.first + 4 * row.words) rows fit.2) at.0 in (
      row_holds v state next face target a (fields_in state) (hardware_in inputs) i before row (rows_entries face.rows (i + 1) (net (rd i)) rows) carry
          (first_of_them face.rows i row rows are) tells holds,
      rows_hold_from v state next inputs face target a (i + 1) (row.first + 4 * row.words) (net (rd i)) rows carry all wires.1 fit.2 at.1
          (rest_of_them face.rows i row rows are) (hold_back v state next (row_entries face.rows i before row) (rows_entries face.rows (i + 1) (net (rd i)) rows) holds),
    )

-- the wires of all rows of the interface
pub rows_hold : (v state next inputs : Values) (face : LaidFace) (a : Access) → CarryAccess v a → RowsWires v state next inputs face.rows → RowsFit face.rows 0 face.rows
    → AllHold v state next (rows_entries face.rows 0 all_ones face.rows) → RowsHold v face (target_at face a.address) a (fields_in state) (hardware_in inputs) 0 all_ones face.rows
rows_hold v state next inputs face a carry wires fit holds =
    rows_hold_from v state next inputs face (target_at face a.address) a 0 0 all_ones face.rows carry wires wires fit (at_rows face.rows a.address face.rows fit) from_zero holds where
      from_zero : AreFrom face.rows 0 face.rows
      from_zero k = let same : 0 + k ≡ k = omega arith in ap (item_at face.rows) same
