-- The rows that are left, one fewer.
use Rattle.std.proofs.Common.{◌≡◌, ℕ, suc, ◌+◌, ◌<◌, List, ◌∷◌, ◌++◌, length, get_or, drop, drop-cons, add-one, append_assoc, ap, sym, ◌∙◌}
use Rattle.cg_svspec.specs.Tree.{Entry}
use Rattle.cg_desc.specs.declared.block.LaidRow.{LaidRow}
use Rattle.cg_regspec.specs.RegisterModule.{row_entries, rows_entries}
use Rattle.cg_svreg.specs.Parts.{read_before}
use Rattle.cg_svreg.proofs.ReadBefore.{read_before-more}

-- once the entries of row i are there, those of the rows above it are left
pub one_row_more : (all rows : List LaidRow) (i : ℕ) (row : LaidRow) (old new whole : List Entry) → i < length rows → row ≡ get_or rows i row
    → new ≡ old ++ row_entries all i (read_before i) row
    → old ++ rows_entries all i (read_before i) (drop i rows) ≡ whole
    → new ++ rows_entries all (i + 1) (read_before (i + 1)) (drop (i + 1) rows) ≡ whole
one_row_more all rows i row old new whole lt row-is new-is before =
    let rest : List LaidRow = drop (i + 1) rows in
    let here : drop i rows ≡ row ∷ rest = rw (add-one, drop-cons rows i row lt) (ap (λ (r : LaidRow). r ∷ drop (suc i) rows) (sym row-is)) in
    rw (new-is, read_before-more)
    (append_assoc old (row_entries all i (read_before i) row) _ ∙ ap (λ (l : List LaidRow). old ++ rows_entries all i (read_before i) l) (sym here) ∙ before)
