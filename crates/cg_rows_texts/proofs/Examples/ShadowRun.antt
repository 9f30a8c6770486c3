-- Every run of a block with one shadowed register, over nine clocks from reset: CFG at 0, whose field A of bits 3 to 0 has the reset
-- value 3. It is read; 5 is written twice, and read; 6 is written, a read comes between, and 6 and then 7 are written; it is read.
use Rattle.std.proofs.Common.{◌≡◌, ℕ, zero, suc, ◌<◌, Bool, true, false, List, [], ◌∷◌, ◌++◌, Option, Some, None, slice_get, refl, ap, sym, subst, ◌∙◌, inl, arith, codes}
use Rattle.cg_svspec.specs.Bits.{bits, same_bits, zeros}
use Rattle.cg_desc.specs.Shadow.{next_phase}
use Rattle.cg_desc.specs.Target.{Target, HoldsAddress, IsTarget, at_register, at_word, register}
use Rattle.cg_desc.specs.Target as target
use Rattle.cg_desc.specs.BlockStep.{Access, State, Hardware, Outcome, read, write, BlockStep}
use Rattle.cg_desc.specs.BlockRun.{Clock, BlockRun, stops, goes_on}
use Rattle.cg_desc.specs.declared.block.SwAccess.TheVariants.{Rw}
use Rattle.cg_desc.specs.declared.block.HwAccess.TheVariants.{Hro}
use Rattle.cg_desc.specs.declared.block.FieldDesc.{FieldDesc}
use Rattle.cg_desc.specs.declared.block.RegDesc.{RegDesc}
use Rattle.cg_desc.specs.declared.block.WindowDesc.{WindowDesc}
use Rattle.cg_desc.specs.declared.block.Item.{Item}
use Rattle.cg_desc.specs.declared.block.Item.TheVariants.{Reg, Window}
use Rattle.cg_desc.specs.declared.block.LaidRow.{LaidRow}
use Rattle.cg_desc.specs.declared.block.LaidFace.{LaidFace}
use Rattle.cg_rows_texts.proofs.Examples.Block.{access, every_byte, face_of, nowhere}

abbrev a_field : FieldDesc
a_field = record { name = codes "A"; msb = 3; lsb = 0; sw = Rw; hw = Hro; resval = 3; mubi = false; at = nowhere }

abbrev cfg : RegDesc
cfg = record { name = codes "CFG"; fields = a_field ∷ []; regwen = None; regwen_at = nowhere; hwext = false; hwqe = false; hwre = false; shadowed = true; at = nowhere }

abbrev face : LaidFace
face = face_of cfg

abbrev reading : Access
reading = access read 0 0 every_byte

abbrev writing : ℕ → Access
writing n = access write 0 n every_byte

abbrev clock : Access → Hardware → Clock
clock a h = record { access = a; hardware = h }

-- what is kept of the register
record Holds (s : State) (value staged : ℕ) (phase : Bool) : Type 0 where
  value_is : s.values cfg a_field ≡ bits 4 value
  staged_is : s.staged cfg a_field ≡ bits 4 staged
  phase_is : s.phase 0 ≡ phase

-- ---- single clocks

-- a read shows the value, and clears the phase
read_step : (s : State) (h : Hardware) (out : Outcome) (value staged : ℕ) (phase : Bool) → Holds s value staged phase → BlockStep face (register 0) reading s h out
    → (out.data_out ≡ bits 4 value ++ zeros 28) × Holds out.next value staged false
read_step s h out value staged phase holds step = (
  step.data_of_read ∙ rw holds.value_is refl,
  record {
    value_is = step.each.0.fields.0.stored ∙ holds.value_is;
    staged_is = (step.each.0.shadow.staged.0) ∙ holds.staged_is;
    phase_is = step.each.0.shadow.phase ∙ by (s.phase 0);
  },
) where
  by : (b : Bool) → next_phase b false true ≡ false
  by true = refl
  by false = refl

-- a write at phase 0 stages, and leaves the field
first_write : (s : State) (h : Hardware) (out : Outcome) (value staged n : ℕ) → Holds s value staged false → BlockStep face (register 0) (writing n) s h out
    → (out.update_error cfg ≡ false) × Holds out.next value n true
unfolding bits
first_write s h out value staged n holds step = (
  step.each.0.shadow.update_error ∙ rw holds.phase_is refl,
  record {
    value_is = step.each.0.fields.0.stored ∙ rw (holds.phase_is, holds.value_is) refl;
    staged_is = step.each.0.shadow.staged.0 ∙ rw holds.phase_is refl;
    phase_is = step.each.0.shadow.phase ∙ rw holds.phase_is refl;
  },
)

-- an equal one at phase 1 commits
equal_write : (s : State) (h : Hardware) (out : Outcome) (value n : ℕ) → same_bits (bits 4 n) (bits 4 n) ≡ true → Holds s value n true → BlockStep face (register 0) (writing n) s h out
    → (out.update_error cfg ≡ false) × Holds out.next n n false
unfolding bits
equal_write s h out value n same holds step = (
  step.each.0.shadow.update_error ∙ rw (holds.phase_is, holds.staged_is, same) refl,
  record {
    value_is = step.each.0.fields.0.stored ∙ rw (holds.phase_is, holds.staged_is, same) refl;
    staged_is = step.each.0.shadow.staged.0 ∙ rw holds.phase_is holds.staged_is;
    phase_is = step.each.0.shadow.phase ∙ rw holds.phase_is refl;
  },
)

-- one that differs fails
other_write : (s : State) (h : Hardware) (out : Outcome) (value staged n : ℕ) → same_bits (bits 4 n) (bits 4 staged) ≡ false → Holds s value staged true
    → BlockStep face (register 0) (writing n) s h out → (out.update_error cfg ≡ true) × Holds out.next value staged false
unfolding bits
other_write s h out value staged n differs holds step = (
  step.each.0.shadow.update_error ∙ rw (holds.phase_is, holds.staged_is, differs) refl,
  record {
    value_is = step.each.0.fields.0.stored ∙ rw (holds.phase_is, holds.staged_is, differs) holds.value_is;
    staged_is = step.each.0.shadow.staged.0 ∙ rw holds.phase_is holds.staged_is;
    phase_is = step.each.0.shadow.phase ∙ rw holds.phase_is refl;
  },
)

-- ---- runs

abbrev only_row : LaidRow
only_row = record { first = 0; words = 1; item = Reg cfg }

abbrev item_if_any : Option LaidRow → Option Item
item_if_any None = None
item_if_any (Some row) = Some row.item

no_window : (w : WindowDesc) → Some (Reg cfg) ≡ Some (Window w) → ⊥
no_window w e = absurd (let bad : Some (Reg cfg) ≡ Some (Window w) = e in cc)

-- offset 0 is the register, and nothing else
only : (t : Target) → IsTarget face 0 t → t ≡ register 0
only t (at_register zero row r get is holds) = refl
only t (at_register (suc i) row r get is holds) = cc
only t (at_word zero row w get is holds) = absurd (no_window w (ap item_if_any get ∙ ap Some is))
only t (at_word (suc i) row w get is holds) = cc
only t (target.nowhere none) = absurd (none only_row (inl refl) (record { from_start = omega arith; before_end = omega arith }))

-- the first clock of a run at offset 0, and the run after it
record Next (s : State) (a : Access) (h : Hardware) (cs : List Clock) (outs : List Outcome) : Type 0 where
  out : Outcome
  rest : List Outcome
  are : outs ≡ out ∷ rest
  step : BlockStep face (register 0) a s h out
  run : BlockRun face out.next cs rest

next_clock : (s : State) (a : Access) (h : Hardware) (cs : List Clock) (outs : List Outcome) → a.address ≡ 0 → BlockRun face s (clock a h ∷ cs) outs → Next s a h cs outs
next_clock s a h cs outs start (goes_on state c t out rest outs' is step run) = record {
  out = out;
  rest = outs';
  are = refl;
  step = subst (λ x. BlockStep face x a s h out) (only t (subst (λ n. IsTarget face n t) start is)) step;
  run = run;
}

-- the first clock shows this, and the others what the rest says
abbrev Reads : ℕ → List Outcome → (List Outcome → Type 0) → Type 0
Reads n [] Rest = ⊥
Reads n (out ∷ outs) Rest = (out.data_out ≡ bits 32 n) × Rest outs

abbrev Writes : Bool → List Outcome → (List Outcome → Type 0) → Type 0
Writes failed [] Rest = ⊥
Writes failed (out ∷ outs) Rest = (out.update_error cfg ≡ failed) × Rest outs

-- a run goes on from a state that keeps this
abbrev GoesOn : ℕ → ℕ → Bool → List Clock → (List Outcome → Type 0) → Type 0
GoesOn value staged phase cs Rest = (s : State) (outs : List Outcome) → Holds s value staged phase → BlockRun face s cs outs → Rest outs

read_clock : (h : Hardware) (cs : List Clock) (value staged : ℕ) (phase : Bool) (Rest : List Outcome → Type 0) → (bits 4 value ++ zeros 28 ≡ bits 32 value) → GoesOn value staged false cs Rest
    → GoesOn value staged phase (clock reading h ∷ cs) (λ outs. Reads value outs Rest)
read_clock h cs value staged phase Rest whole more s outs holds run =
    let n = next_clock s reading h cs outs refl run in
    let does = read_step s h n.out value staged phase holds n.step in
    subst (λ os. Reads value os Rest) (sym n.are) (does.0 ∙ whole, more n.out.next n.rest does.1 n.run)

first_clock : (h : Hardware) (cs : List Clock) (value staged w : ℕ) (Rest : List Outcome → Type 0) → GoesOn value w true cs Rest
    → GoesOn value staged false (clock (writing w) h ∷ cs) (λ outs. Writes false outs Rest)
first_clock h cs value staged w Rest more s outs holds run =
    let n = next_clock s (writing w) h cs outs refl run in
    let does = first_write s h n.out value staged w holds n.step in
    subst (λ os. Writes false os Rest) (sym n.are) (does.0, more n.out.next n.rest does.1 n.run)

equal_clock : (h : Hardware) (cs : List Clock) (value w : ℕ) (Rest : List Outcome → Type 0) → same_bits (bits 4 w) (bits 4 w) ≡ true → GoesOn w w false cs Rest
    → GoesOn value w true (clock (writing w) h ∷ cs) (λ outs. Writes false outs Rest)
equal_clock h cs value w Rest same more s outs holds run =
    let n = next_clock s (writing w) h cs outs refl run in
    let does = equal_write s h n.out value w same holds n.step in
    subst (λ os. Writes false os Rest) (sym n.are) (does.0, more n.out.next n.rest does.1 n.run)

other_clock : (h : Hardware) (cs : List Clock) (value staged w : ℕ) (Rest : List Outcome → Type 0) → same_bits (bits 4 w) (bits 4 staged) ≡ false → GoesOn value staged false cs Rest
    → GoesOn value staged true (clock (writing w) h ∷ cs) (λ outs. Writes true outs Rest)
other_clock h cs value staged w Rest differs more s outs holds run =
    let n = next_clock s (writing w) h cs outs refl run in
    let does = other_write s h n.out value staged w differs holds n.step in
    subst (λ os. Writes true os Rest) (sym n.are) (does.0, more n.out.next n.rest does.1 n.run)

-- ---- the nine clocks

abbrev clocks : (ℕ → Hardware) → List Clock
clocks h =
    clock reading (h 0) ∷ clock (writing 5) (h 1) ∷ clock (writing 5) (h 2) ∷ clock reading (h 3) ∷ clock (writing 6) (h 4) ∷ clock reading (h 5)
    ∷ clock (writing 6) (h 6) ∷ clock (writing 7) (h 7) ∷ clock reading (h 8) ∷ []

-- no further clock
abbrev Ends : List Outcome → Type 0
Ends outs = outs ≡ []

-- what the clocks show: of reads the data, and of writes whether the update error shows
abbrev Shown : List Outcome → Type 0
Shown outs =
    Reads 3 outs (λ o. Writes false o (λ o. Writes false o (λ o. Reads 5 o (λ o. Writes false o (λ o. Reads 5 o (λ o. Writes false o (λ o. Writes true o (λ o. Reads 5 o Ends))))))))

whole_3 : bits 4 3 ++ zeros 28 ≡ bits 32 3
unfolding bits
whole_3 = refl

whole_5 : bits 4 5 ++ zeros 28 ≡ bits 32 5
unfolding bits
whole_5 = refl

same_5 : same_bits (bits 4 5) (bits 4 5) ≡ true
unfolding bits
same_5 = refl

differs_7 : same_bits (bits 4 7) (bits 4 6) ≡ false
unfolding bits
differs_7 = refl

ends : GoesOn 5 6 false [] Ends
ends s outs holds (stops state) = refl

-- whatever hardware brings, from the reset value with nothing staged
worked : (h : ℕ → Hardware) → GoesOn 3 0 false (clocks h) Shown
worked h =
    read_clock (h 0) _ 3 0 false _ whole_3 (first_clock (h 1) _ 3 0 5 _ (equal_clock (h 2) _ 3 5 _ same_5 (read_clock (h 3) _ 5 5 false _ whole_5 (first_clock (h 4) _ 5 5 6 _
    (read_clock (h 5) _ 5 6 true _ whole_5 (first_clock (h 6) _ 5 6 6 _ (other_clock (h 7) _ 5 6 7 _ differs_7 (read_clock (h 8) [] 5 6 false Ends whole_5 ends))))))))
