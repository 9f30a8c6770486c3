-- What is read where a row is not hit: what the row before it shows.
use Rattle.std.proofs.Common.{◌≡◌, ℕ, ◌+◌, ◌-◌, List, [], ◌∷◌, length, refl, ap, sym, ◌∙◌, arith, add-one, add-zero}
use Rattle.std.proofs.Math.Dec.{eqb-suc-zero}
use Rattle.cg_svspec.specs.Tree.{Expression, net}
use Rattle.cg_desc.specs.declared.block.LaidRow.{LaidRow}
use Rattle.cg_regspec.specs.NetNames.{rd}
use Rattle.cg_regspec.specs.RegisterModule.{all_ones, last_rd}
use Rattle.cg_svreg.specs.Parts.{read_before}

-- before row 0
pub read_before-zero : read_before 0 ≡ all_ones
unfolding read_before
read_before-zero = refl

-- before a row that follows another
pub read_before-more : (i : ℕ) → read_before (i + 1) ≡ net (rd i)
unfolding read_before
read_before-more i = let same : i + 1 - 1 ≡ i = omega arith in rw (same, add-one, eqb-suc-zero) refl

from_here : (i : ℕ) (rows : List LaidRow) → last_rd i (read_before i) rows ≡ read_before (i + length rows)
from_here i [] = ap read_before (sym (add-zero i))
from_here i (row ∷ rows) =
    ap (λ (x : Expression). last_rd (i + 1) x rows) (sym (read_before-more i)) ∙ from_here (i + 1) rows ∙ ap read_before (omega arith)

-- after all rows
pub read_before-all : (rows : List LaidRow) → read_before (length rows) ≡ last_rd 0 all_ones rows
read_before-all rows =
    ap read_before (omega arith) ∙ sym (from_here 0 rows) ∙ ap (λ (x : Expression). last_rd 0 x rows) read_before-zero

pub ruleset reads = (read_before-zero, read_before-more, read_before-all)
