-- The next values of fields, and what hardware sees of them.
use Rattle.std.proofs.Common.{◌≡◌, ℕ, Bool, true, false, not, cond, ◌&&◌, List, [], ◌∷◌, ◌++◌, length, refl, ap, ◌∙◌}
use Rattle.std.proofs.lemmas.Bool.{not-true}
use Rattle.cg_svspec.specs.Bits.{Bits, chosen}
use Rattle.cg_svspec.specs.Tree.{Expression, net, pick, assign}
use Rattle.cg_svspec.specs.Value.{Values, eval, AllHold}
use Rattle.cg_desc.specs.AccessTable.{hardware_writes, after_hardware, next_value}
use Rattle.cg_desc.specs.Target.{Target}
use Rattle.cg_desc.specs.BlockStep.{Access, writes_fields, takes_read, bits_of_field, shows_q, shows_qe, shows_re, Where, FieldSteps, EachField}
use Rattle.cg_desc.specs.declared.block.SwAccess.{SwAccess}
use Rattle.cg_desc.specs.declared.block.SwAccess.TheVariants.{Ro, Rc, Rw, R0w1c, Rw1s, Rw1c, Rw0c, Wo, Nothing}
use Rattle.cg_desc.specs.declared.block.FieldDesc.{FieldDesc}
use Rattle.cg_desc.specs.declared.block.RegDesc.{RegDesc}
use Rattle.cg_desc.specs.declared.block.LaidFace.{LaidFace}
use Rattle.cg_regspec.specs.NetNames.{reg_wdata, re, state_net, hold_net, q_net, qe_net, re_net, d_net, de_net}
use Rattle.cg_regspec.specs.RegisterModule.{width_of, hardware_sets, has_q, has_qe, has_re, has_d, written_bits, next_of, entry_if, write_net, field_views, field_updates, field_entries, fields_entries}
use Rattle.cg_regspec.specs.Meaning.{bit_of, state_in, hardware_in, outcome_in}
use Rattle.cg_svspec.proofs.BitLists.{bits-zero, bits-ones}
use Rattle.cg_svspec.proofs.Parts.{hold_front, hold_back}
use Rattle.cg_regspec.proofs.Tables.{sets_is, has_q_is, has_qe_is, has_re_is}
use Rattle.cg_regspec.proofs.Wires.{CarryAccess, FieldWires, entry_holds}
use Rattle.cg_regspec.proofs.Items.{slice_is}

-- a fact where a test holds, from a proof of it there
pub where_true : (b : Bool) (P : Type 0) → (b ≡ true → P) → Where b P
where_true true P there = there refl
where_true false P there = tt

-- the field's bits of the write data
pub written_is : (v : Values) (a : Access) (f : FieldDesc) → CarryAccess v a → eval v (written_bits f) ≡ bits_of_field f a.data_in
written_is v a f carry =
    let wide : length (v reg_wdata) ≡ 32 = rw carry.data_in carry.data_width in
    slice_is v reg_wdata 32 f.msb f.lsb wide ∙ rw carry.data_in refl

-- ---- the next value

-- the value of the expression for each kind is the one of the access table
next_is : (v : Values) (kind : SwAccess) (writes reads : List ℕ) (written : Expression) (hold : List ℕ) (w : ℕ) (takes_we takes_re : Bool) (data_in h : Bits) → v writes ≡ takes_we ∷ []
    → v reads ≡ takes_re ∷ [] → eval v written ≡ data_in → v hold ≡ h → length h ≡ w
    → eval v (next_of kind writes reads written (net hold) w) ≡ next_value kind takes_we takes_re data_in h
next_is v Rw writes reads written hold w takes_we takes_re data_in h wes res is holds wide = rw (wes, is, holds) refl
next_is v Wo writes reads written hold w takes_we takes_re data_in h wes res is holds wide = rw (wes, is, holds) refl
next_is v Ro writes reads written hold w takes_we takes_re data_in h wes res is holds wide = holds
next_is v Nothing writes reads written hold w takes_we takes_re data_in h wes res is holds wide = holds
next_is v Rw1s writes reads written hold w takes_we takes_re data_in h wes res is holds wide = rw (wes, is, holds, bits-zero w, wide) refl
next_is v Rw1c writes reads written hold w takes_we takes_re data_in h wes res is holds wide = rw (wes, is, holds, bits-ones w, wide) refl
next_is v R0w1c writes reads written hold w takes_we takes_re data_in h wes res is holds wide = rw (wes, is, holds, bits-ones w, wide) refl
next_is v Rw0c writes reads written hold w takes_we takes_re data_in h wes res is holds wide = rw (wes, is, holds, bits-ones w, wide) refl
next_is v Rc writes reads written hold w takes_we takes_re data_in h wes res is holds wide = rw (res, bits-zero w, holds, wide) refl

-- a choice by the first bit of a strobe
chosen_by : (strobe d q : Bits) → chosen strobe d q ≡ cond (bit_of strobe) d q
chosen_by [] d q = refl
chosen_by (b ∷ bs) d q = refl

-- the value after hardware, with its width
record Held (v state inputs : Values) (r : RegDesc) (f : FieldDesc) (writes : Bool) : Type 0 where
  is : eval v (cond writes (pick (net (de_net r f)) (net (d_net r f)) (net (state_net r f))) (net (state_net r f)))
      ≡ after_hardware (writes && bit_of (inputs (de_net r f))) (inputs (d_net r f)) (state (state_net r f))
  wide : length (after_hardware (writes && bit_of (inputs (de_net r f))) (inputs (d_net r f)) (state (state_net r f))) ≡ width_of f

-- a choice of two values of one width
wide_by : (b : Bool) (x y : Bits) (w : ℕ) → length x ≡ w → length y ≡ w → length (cond b x y) ≡ w
wide_by true x y w e g = e
wide_by false x y w e g = g

-- the value after hardware, by whether hardware writes the field
held : (v state next inputs : Values) (r : RegDesc) (f : FieldDesc) (writes : Bool) → r.hwext ≡ false → hardware_sets f.hw ≡ writes → FieldWires v state next inputs r f
    → Held v state inputs r f writes
held v state next inputs r f false inside by wires = record { is = wires.stored inside; wide = wires.stored_width inside }
held v state next inputs r f true inside by wires =
    let takes : cond r.hwext false (hardware_sets f.hw) ≡ true = rw (inside, by) refl in
    let brings : has_d r f ≡ true = rw (inside, by) refl in
    record {
      is = rw (wires.strobe takes, wires.brought brings, wires.stored inside) (chosen_by (inputs (de_net r f)) (inputs (d_net r f)) (state (state_net r f)));
      wide = wide_by (bit_of (inputs (de_net r f))) (inputs (d_net r f)) (state (state_net r f)) (width_of f) (wires.brought_width brings) (wires.stored_width inside);
    }

-- a register that is not external has its next values
pub updates_hold : (v state next : Values) (i : ℕ) (r : RegDesc) (f : FieldDesc) (external : Bool) → AllHold v state next (cond external [] (field_updates i r f)) → external ≡ false
    → AllHold v state next (field_updates i r f)
updates_hold v state next i r f true holds inside = cc
updates_hold v state next i r f false holds inside = holds

-- a stored field takes the value of the access table
next_stored : (v state next inputs : Values) (a : Access) (i : ℕ) (r : RegDesc) (f : FieldDesc) (takes_we takes_re : Bool) → CarryAccess v a → v (write_net i r) ≡ takes_we ∷ [] → v (re i) ≡ takes_re ∷ []
    → FieldWires v state next inputs r f → r.hwext ≡ false → AllHold v state next (field_updates i r f)
    → next (state_net r f) ≡ next_value f.sw takes_we takes_re (bits_of_field f a.data_in)
    (after_hardware (hardware_writes f.hw && bit_of (inputs (de_net r f))) (inputs (d_net r f)) (state (state_net r f)))
next_stored v state next inputs a i r f takes_we takes_re carry wes res wires inside holds =
    let after = held v state next inputs r f (hardware_sets f.hw) inside refl wires in
    wires.stored_next inside
    ∙ (holds.1.0 ∙ next_is v f.sw (write_net i r) (re i) (written_bits f) (hold_net r f) (width_of f) takes_we takes_re (bits_of_field f a.data_in) _ wes res (written_is v a f carry) (holds.0 ∙ after.is) after.wide)
    ∙ ap (λ b. next_value f.sw takes_we takes_re (bits_of_field f a.data_in) (after_hardware (b && bit_of (inputs (de_net r f))) (inputs (d_net r f)) (state (state_net r f)))) (sets_is f.hw)

-- ---- what hardware sees

-- the value that hardware sees, by whether the register is external
value_by : (v state next inputs : Values) (a : Access) (r : RegDesc) (f : FieldDesc) (external : Bool) → r.hwext ≡ external → CarryAccess v a → FieldWires v state next inputs r f
    → eval v (cond external (written_bits f) (net (state_net r f))) ≡ cond external (bits_of_field f a.data_in) (state (state_net r f))
value_by v state next inputs a r f true is carry wires = written_is v a f carry
value_by v state next inputs a r f false is carry wires = wires.stored is

-- the views of a field, where it has them
record Views (v state : Values) (a : Access) (r : RegDesc) (f : FieldDesc) (takes_we takes_re : Bool) : Type 0 where
  value_seen : has_q r f ≡ true → v (q_net r f) ≡ cond r.hwext (bits_of_field f a.data_in) (state (state_net r f))
  write_seen : has_qe r f ≡ true → bit_of (v (qe_net r f)) ≡ takes_we
  read_seen : has_re r f ≡ true → bit_of (v (re_net r f)) ≡ takes_re

-- the bit of a net that has another's one bit
first_bit : (xs ys : Bits) (b : Bool) → xs ≡ ys → ys ≡ b ∷ [] → bit_of xs ≡ b
first_bit xs ys b e g = rw (e, g) refl

-- the views, from the assigns of the field's outputs
views : (v state next inputs : Values) (a : Access) (i : ℕ) (r : RegDesc) (f : FieldDesc) (takes_we takes_re : Bool) → CarryAccess v a → v (write_net i r) ≡ takes_we ∷ [] → v (re i) ≡ takes_re ∷ []
    → FieldWires v state next inputs r f → AllHold v state next (field_views i r f) → Views v state a r f takes_we takes_re
views v state next inputs a i r f takes_we takes_re carry wes res wires holds =
    let value_view = entry_if (has_q r f) (assign (q_net r f) (cond r.hwext (written_bits f) (net (state_net r f)))) in
    let write_view = entry_if (has_qe r f) (assign (qe_net r f) (net (write_net i r))) in
    let read_view = entry_if (has_re r f) (assign (re_net r f) (net (re i))) in
    let later = hold_back v state next value_view (write_view ++ read_view) holds in
    record {
      value_seen = λ e. entry_holds v state next (has_q r f) _ (hold_front v state next value_view (write_view ++ read_view) holds) e ∙ value_by v state next inputs a r f r.hwext refl carry wires;
      write_seen = λ e. first_bit (v (qe_net r f)) (v (write_net i r)) takes_we (entry_holds v state next (has_qe r f) (assign (qe_net r f) (net (write_net i r))) (hold_front v state next write_view read_view later) e) wes;
      read_seen = λ e. first_bit (v (re_net r f)) (v (re i)) takes_re (entry_holds v state next (has_re r f) (assign (re_net r f) (net (re i))) (hold_back v state next write_view read_view later) e) res;
    }

-- ---- the step of each field of a register in row i

-- the step of one field
field_steps : (v state next inputs : Values) (face : LaidFace) (target : Target) (a : Access) (i : ℕ) (r : RegDesc) (f : FieldDesc) → CarryAccess v a
    → v (write_net i r) ≡ writes_fields face target a (state_in state) i r ∷ [] → v (re i) ≡ takes_read face target a i ∷ [] → FieldWires v state next inputs r f
    → AllHold v state next (field_entries i r f) → FieldSteps face target a (state_in state) (hardware_in inputs) (outcome_in v next) i r f
field_steps v state next inputs face target a i r f carry wes res wires holds =
    let updates = hold_front v state next (cond r.hwext [] (field_updates i r f)) (field_views i r f) holds in
    let seen = views v state next inputs a i r f (writes_fields face target a (state_in state) i r) (takes_read face target a i) carry wes res wires
    (hold_back v state next (cond r.hwext [] (field_updates i r f)) (field_views i r f) holds) in
    record {
      stored = where_true (not r.hwext) _
          (λ e. next_stored v state next inputs a i r f (writes_fields face target a (state_in state) i r) (takes_read face target a i) carry wes res wires (not-true r.hwext e)
          (updates_hold v state next i r f r.hwext updates (not-true r.hwext e)));
      value_seen = where_true (shows_q r f) _ (λ e. seen.value_seen (has_q_is r f ∙ e));
      write_seen = where_true (shows_qe r f) _ (λ e. seen.write_seen (has_qe_is r f ∙ e));
      read_seen = where_true (shows_re r f) _ (λ e. seen.read_seen (has_re_is r f ∙ e));
    }

-- the step of all fields of a register
pub fields_step : (v state next inputs : Values) (face : LaidFace) (target : Target) (a : Access) (i : ℕ) (r : RegDesc) (fs : List FieldDesc) → CarryAccess v a
    → v (write_net i r) ≡ writes_fields face target a (state_in state) i r ∷ [] → v (re i) ≡ takes_read face target a i ∷ [] → EachField (FieldWires v state next inputs r) fs
    → AllHold v state next (fields_entries i r fs) → EachField (FieldSteps face target a (state_in state) (hardware_in inputs) (outcome_in v next) i r) fs
fields_step v state next inputs face target a i r [] carry wes res wires holds = tt
fields_step v state next inputs face target a i r (f ∷ fs) carry wes res wires holds = (
  field_steps v state next inputs face target a i r f carry wes res wires.0 (hold_front v state next (field_entries i r f) (fields_entries i r fs) holds),
  fields_step v state next inputs face target a i r fs carry wes res wires.1 (hold_back v state next (field_entries i r f) (fields_entries i r fs) holds),
)
