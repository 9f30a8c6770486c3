-- Which row an address is in, by the rows' places.
use Rattle.std.proofs.Common.{◌≡◌, ℕ, suc, ◌+◌, ◌-◌, ◌*◌, ◌/◌, ◌<◌, ◌≤◌, List, ◌∷◌, slice_get, refl, ap, subst, ◌∙◌, arith}
use Rattle.cg_desc.specs.Target.{register, word, aligned, IsTarget, at_register, at_word}
use Rattle.cg_desc.specs.declared.block.RegDesc.{RegDesc}
use Rattle.cg_desc.specs.declared.block.WindowDesc.{WindowDesc}
use Rattle.cg_desc.specs.declared.block.Item.TheVariants.{Reg, Window}
use Rattle.cg_desc.specs.declared.block.LaidRow.{LaidRow}
use Rattle.cg_desc.specs.declared.block.LaidFace.{LaidFace}

-- the rows of the interface from number i on are these
abbrev pub From : LaidFace → ℕ → List LaidRow → Type 0
From face i rows = (k : ℕ) → slice_get face.rows (i + k) ≡ slice_get rows k

-- and those after the first
pub from_later : (face : LaidFace) (i : ℕ) (row : LaidRow) (rows : List LaidRow) → From face i (row ∷ rows) → From face (i + 1) rows
from_later face i row rows from k = let same : i + 1 + k ≡ i + suc k = omega arith in ap (slice_get face.rows) same ∙ from (suc k)

-- the offset of a register is its place
pub register_place : (face : LaidFace) (i first words turn : ℕ) (r : RegDesc) (rows : List LaidRow) → From face i (record { first = first; words = words; item = Reg r } ∷ rows)
    → words ≡ 1 → first ≡ 4 * turn → IsTarget face first (register i)
register_place face i first words turn r rows from one start =
    let same : i ≡ i + 0 = omega arith in
    at_register i (record { first = first; words = words; item = Reg r }) r (ap (slice_get face.rows) same ∙ from 0) refl (record { from_start = omega arith; before_end = omega arith })

-- the number of a word of a window
number_of : (first turn k : ℕ) → first ≡ 4 * turn → (aligned (first + 4 * k) - first) / 4 ≡ k
number_of first turn k start = omega arith

-- the offset of a window and 4 * k is the place of its word k
pub window_place : (face : LaidFace) (i first words turn k : ℕ) (w : WindowDesc) (rows : List LaidRow) → From face i (record { first = first; words = words; item = Window w } ∷ rows)
    → first ≡ 4 * turn → k < words → IsTarget face (first + 4 * k) (word i k)
window_place face i first words turn k w rows from start few =
    let same : i ≡ i + 0 = omega arith in
    subst (λ n. IsTarget face (first + 4 * k) (word i n)) (number_of first turn k start)
    (at_word i (record { first = first; words = words; item = Window w }) w (ap (slice_get face.rows) same ∙ from 0) refl (record { from_start = omega arith; before_end = omega arith }))
