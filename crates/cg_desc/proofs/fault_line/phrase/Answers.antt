use Rattle.std.proofs.Common.{◌≡◌, ◌==◌, ◌∙◌, sym, ap, refl, ℕ, List, [], ◌∷◌, Some, Option, true, false, cond, find, map, Bor}
use Rattle.std.specs.Option.{option_map}
use Rattle.cg_desc.specs.FaultText.{phrases, phrase_of}
use Rattle.cg_desc.proofs.fault_line.phrase.Goals as goal

-- a row of the code's table, and of the table of the specification
abbrev Row : Type 0
Row = ℕ × Bor (List ℕ)

abbrev read : Row → ℕ × List ℕ
read row = (row.0, row.1.now)

abbrev in_table : List (ℕ × List ℕ) → ℕ → Option (List ℕ)
in_table table rule = option_map (λ (row : ℕ × List ℕ). row.1) (find (λ (row : ℕ × List ℕ). row.0 == rule) table)

abbrev in_rows : List Row → ℕ → Option (List ℕ)
in_rows rows rule = option_map (λ (row : Row). row.1.now) (find (λ (row : Row). row.0 == rule) rows)

-- a phrase is found alike in both
in_table-map : (rows : List Row) (rule : ℕ) → in_table (map read rows) rule ≡ in_rows rows rule
in_table-map [] rule = refl
in_table-map (row ∷ rows) rule =
    elim (row.0 == rule) as
    (λ b. option_map (λ (r : ℕ × List ℕ). r.1) (cond b (Some (read row)) (find (λ (r : ℕ × List ℕ). r.0 == rule) (map read rows)))
    ≡ option_map (λ (r : Row). r.1.now) (cond b (Some row) (find (λ (r : Row). r.0 == rule) rows)))
    [ true ↦ refl | false ↦ in_table-map rows rule ]

phrase_in_rows : (rows : List Row) (rule : ℕ) → map read rows ≡ phrases → phrase_of rule ≡ in_rows rows rule
unfolding phrase_of
phrase_in_rows rows rule e = sym (ap (λ table. in_table table rule) e) ∙ in_table-map rows rule

pub returns-in-Some : goal.returns-in-Some
returns-in-Some c =
    rw (phrase_in_rows c.all_phrases.result.now c.args.rule c.all_phrases.ensures, ← c.in-Some.ensures)

pub returns-in-None : goal.returns-in-None
returns-in-None c =
    rw (phrase_in_rows c.all_phrases.result.now c.args.rule c.all_phrases.ensures, ← c.in-None.ensures)
