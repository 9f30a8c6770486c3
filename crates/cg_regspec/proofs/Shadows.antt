-- Shadowed registers: what a row's nets for one hold, and the next staged values.
use Rattle.std.proofs.Common.{◌≡◌, ℕ, Bool, true, false, not, cond, ◌&&◌, List, [], ◌∷◌, length, refl, ap, sym, ◌∙◌, arith}
use Rattle.std.proofs.Math.Bool.{and-true}
use Rattle.std.specs.List.{list_all}
use Rattle.cg_svspec.specs.Bits.{Bits, bits, same_bit, same_bits, zipped}
use Rattle.cg_svspec.specs.Tree.{Expression, and, Entry}
use Rattle.cg_svspec.specs.Value.{Values, eval, AllHold}
use Rattle.cg_desc.specs.Shadow.{is_shadowed, commits, fails, next_phase}
use Rattle.cg_desc.specs.Target.{Target}
use Rattle.cg_desc.specs.BlockStep.{Access, takes_write, takes_read, bits_of_field, equals_staged, writes_fields, EachField, ShadowSteps}
use Rattle.cg_desc.specs.declared.block.FieldDesc.{FieldDesc}
use Rattle.cg_desc.specs.declared.block.RegDesc.{RegDesc}
use Rattle.cg_desc.specs.declared.block.LaidFace.{LaidFace}
use Rattle.cg_regspec.specs.NetNames.{we, re, phase_net, equal_net, commit_net, next_phase_net, update_error_net, staged_net}
use Rattle.cg_regspec.specs.RegisterModule.{has_shadow, field_views, field_updates, field_entries, fields_entries, equals, equals_and, all_equal, second_write, shadow_entries, write_net}
use Rattle.cg_regspec.specs.Meaning.{bit_of, state_in, outcome_in}
use Rattle.cg_svspec.proofs.Parts.{hold_front, hold_back}
use Rattle.cg_regspec.proofs.Tables.{has_shadow_is}
use Rattle.cg_regspec.proofs.Wires.{CarryAccess, FieldWires, PhaseWires, RegisterWires, entry_holds, shadow_stored}
use Rattle.cg_regspec.proofs.Fields.{written_is, updates_hold}

-- ---- tests of bits

-- one bit is its first one
one_bit : (xs : Bits) → length xs ≡ 1 → xs ≡ bit_of xs ∷ []
one_bit [] one = absurd (omega arith)
one_bit (x ∷ []) one = refl
one_bit (x ∷ (y ∷ ys)) one = absurd (omega arith)

-- the same bits, either way round
same_turn : (x y : Bool) → same_bit x y ≡ same_bit y x
same_turn true true = refl
same_turn true false = refl
same_turn false true = refl
same_turn false false = refl

same_bits_turn : (xs ys : Bits) → same_bits xs ys ≡ same_bits ys xs
same_bits_turn [] [] = refl
same_bits_turn [] (y ∷ ys) = refl
same_bits_turn (x ∷ xs) [] = refl
same_bits_turn (x ∷ xs) (y ∷ ys) = rw (same_turn x y, same_bits_turn xs ys) refl

-- an and of three in another order
and_in : (x y z : Bool) → ((x && y) && z) ≡ (x && (y && z))
and_in true y z = refl
and_in false y z = refl

-- the next phase, as the row's expression chooses it
phase_by : (phase takes_we takes_re : Bool) → cond takes_we (not phase ∷ []) (cond takes_re (bits 1 0) (phase ∷ [])) ≡ next_phase phase takes_we takes_re ∷ []
unfolding bits
phase_by true true takes_re = refl
phase_by false true takes_re = refl
phase_by true false true = refl
phase_by false false true = refl
phase_by true false false = refl
phase_by false false false = refl

-- ---- whether every field is equal

-- one field's test
equals_is : (v state next inputs : Values) (a : Access) (r : RegDesc) (f : FieldDesc) → has_shadow r ≡ true → CarryAccess v a → FieldWires v state next inputs r f
    → eval v (equals r f) ≡ same_bits (bits_of_field f a.data_in) (state (staged_net r f)) ∷ []
equals_is v state next inputs a r f is carry wires =
    rw (wires.staged is, written_is v a f carry) (ap (λ b. b ∷ []) (same_bits_turn (state (staged_net r f)) (bits_of_field f a.data_in)))

-- the test of a field, as the block has it
abbrev is_equal : Values → Access → RegDesc → FieldDesc → Bool
is_equal state a r f = same_bits (bits_of_field f a.data_in) (state (staged_net r f))

-- an and of two tests
and_bits : (xs ys : Bits) (b c : Bool) → xs ≡ b ∷ [] → ys ≡ c ∷ [] → zipped ◌&&◌ xs ys ≡ (b && c) ∷ []
and_bits xs ys b c e g = rw (e, g) refl

-- behind others
equals_and_is : (v state next inputs : Values) (a : Access) (r : RegDesc) (x : Expression) (b : Bool) (fs : List FieldDesc) → has_shadow r ≡ true → CarryAccess v a
    → EachField (FieldWires v state next inputs r) fs → eval v x ≡ b ∷ [] → eval v (equals_and x r fs) ≡ (b && list_all (is_equal state a r) fs) ∷ []
equals_and_is v state next inputs a r x b [] is carry wires holds = holds ∙ ap (λ z. z ∷ []) (sym (and-true b))
equals_and_is v state next inputs a r x b (f ∷ fs) is carry wires holds =
    let here : eval v (and x (equals r f)) ≡ (b && is_equal state a r f) ∷ [] =
    and_bits (eval v x) (eval v (equals r f)) b (is_equal state a r f) holds (equals_is v state next inputs a r f is carry wires.0) in
    equals_and_is v state next inputs a r (and x (equals r f)) (b && is_equal state a r f) fs is carry wires.1 here
    ∙ ap (λ z. z ∷ []) (and_in b (is_equal state a r f) (list_all (is_equal state a r) fs))

-- all fields
all_equal_is : (v state next inputs : Values) (a : Access) (r : RegDesc) (fs : List FieldDesc) → has_shadow r ≡ true → CarryAccess v a → EachField (FieldWires v state next inputs r) fs
    → eval v (all_equal r fs) ≡ list_all (is_equal state a r) fs ∷ []
unfolding bits
all_equal_is v state next inputs a r [] is carry wires = refl
all_equal_is v state next inputs a r (f ∷ fs) is carry wires =
    equals_and_is v state next inputs a r (equals r f) (is_equal state a r f) fs is carry wires.1 (equals_is v state next inputs a r f is carry wires.0)

-- ---- the nets of the row

-- what they hold
record ShadowHolds (v next : Values) (i : ℕ) (r : RegDesc) (phase takes_we takes_re same : Bool) : Type 0 where
  commit : v (commit_net i) ≡ commits phase takes_we same ∷ []
  phase_after : bit_of (next (phase_net i)) ≡ next_phase phase takes_we takes_re
  update_error : bit_of (v (update_error_net r)) ≡ fails phase takes_we same

-- from the row's entries
shadow_holds : (v state next inputs : Values) (a : Access) (i : ℕ) (r : RegDesc) (takes_we takes_re : Bool) → has_shadow r ≡ true → CarryAccess v a → v (we i) ≡ takes_we ∷ []
    → v (re i) ≡ takes_re ∷ [] → PhaseWires v state next i → RegisterWires v state next inputs r → AllHold v state next (shadow_entries i r)
    → ShadowHolds v next i r (bit_of (state (phase_net i))) takes_we takes_re (equals_staged a (λ r f. state (staged_net r f)) r)
shadow_holds v state next inputs a i r takes_we takes_re is carry wes res phases wires holds =
    let phase : Bool = bit_of (state (phase_net i)) in
    let same : Bool = equals_staged a (λ r f. state (staged_net r f)) r in
    let held : v (phase_net i) ≡ phase ∷ [] = phases.stored ∙ one_bit (state (phase_net i)) phases.stored_width in
    let equal : v (equal_net i) ≡ same ∷ [] = holds.0 ∙ all_equal_is v state next inputs a r r.fields is carry wires in
    let second : eval v (second_write i) ≡ (takes_we && phase) ∷ [] = rw (wes, held) refl in
    let after : v (next_phase_net i) ≡ next_phase phase takes_we takes_re ∷ [] = holds.1.1.0 ∙ (rw (wes, res, held) refl ∙ phase_by phase takes_we takes_re) in
    let error : v (update_error_net r) ≡ fails phase takes_we same ∷ [] = holds.1.1.1.0 ∙ (rw (second, equal) refl ∙ ap (λ b. b ∷ []) (and_in takes_we phase (not same))) in
    record {
      commit = holds.1.0 ∙ (rw (second, equal) refl ∙ ap (λ b. b ∷ []) (and_in takes_we phase same));
      phase_after = ap bit_of (phases.stored_next ∙ after);
      update_error = ap bit_of error;
    }

-- ---- the next staged values

-- of one field
staged_next : (v state next inputs : Values) (a : Access) (i : ℕ) (r : RegDesc) (f : FieldDesc) (takes_we : Bool) → has_shadow r ≡ true → CarryAccess v a → v (we i) ≡ takes_we ∷ []
    → PhaseWires v state next i → FieldWires v state next inputs r f → AllHold v state next (field_entries i r f)
    → next (staged_net r f) ≡ cond (takes_we && not (bit_of (state (phase_net i)))) (bits_of_field f a.data_in) (state (staged_net r f))
staged_next v state next inputs a i r f takes_we is carry wes phases wires holds =
    let held : v (phase_net i) ≡ bit_of (state (phase_net i)) ∷ [] = phases.stored ∙ one_bit (state (phase_net i)) phases.stored_width in
    let updates : AllHold v state next (field_updates i r f) =
    updates_hold v state next i r f r.hwext (hold_front v state next (cond r.hwext [] (field_updates i r f)) (field_views i r f) holds) (shadow_stored r is) in
    wires.staged_next is ∙ (entry_holds v state next (has_shadow r) _ updates.1.1 is ∙ rw (wes, held, written_is v a f carry, wires.staged is) refl)

-- of all fields
each_staged_next : (v state next inputs : Values) (a : Access) (i : ℕ) (r : RegDesc) (fs : List FieldDesc) (takes_we : Bool) → has_shadow r ≡ true → CarryAccess v a → v (we i) ≡ takes_we ∷ []
    → PhaseWires v state next i → EachField (FieldWires v state next inputs r) fs → AllHold v state next (fields_entries i r fs)
    → EachField (λ f. next (staged_net r f) ≡ cond (takes_we && not (bit_of (state (phase_net i)))) (bits_of_field f a.data_in) (state (staged_net r f))) fs
each_staged_next v state next inputs a i r [] takes_we is carry wes phases wires holds = tt
each_staged_next v state next inputs a i r (f ∷ fs) takes_we is carry wes phases wires holds = (
  staged_next v state next inputs a i r f takes_we is carry wes phases wires.0 (hold_front v state next (field_entries i r f) (fields_entries i r fs) holds),
  each_staged_next v state next inputs a i r fs takes_we is carry wes phases wires.1 (hold_back v state next (field_entries i r f) (fields_entries i r fs) holds),
)

-- ---- the step

-- the entries of a register with a shadow
shadow_there : (v state next : Values) (b : Bool) (es : List Entry) → AllHold v state next (cond b es []) → b ≡ true → AllHold v state next es
shadow_there v state next true es holds is = holds
shadow_there v state next false es holds is = cc

-- the step of a shadowed register in row i
pub shadow_steps : (v state next inputs : Values) (face : LaidFace) (target : Target) (a : Access) (i : ℕ) (r : RegDesc) → is_shadowed r ≡ true → CarryAccess v a
    → v (we i) ≡ takes_write face target a (state_in state).values i r ∷ [] → v (re i) ≡ takes_read face target a i ∷ [] → (has_shadow r ≡ true → PhaseWires v state next i)
    → RegisterWires v state next inputs r → AllHold v state next (cond (has_shadow r) (shadow_entries i r) []) → AllHold v state next (fields_entries i r r.fields)
    → ShadowSteps face target a (state_in state) (outcome_in v next) i r
shadow_steps v state next inputs face target a i r shadowed carry wes res phases wires shadow fields =
    let is : has_shadow r ≡ true = has_shadow_is r ∙ shadowed in
    let takes_we : Bool = takes_write face target a (state_in state).values i r in
    let has = shadow_holds v state next inputs a i r takes_we (takes_read face target a i) is carry wes res (phases is) wires (shadow_there v state next (has_shadow r) (shadow_entries i r) shadow is) in
    record {
      staged = each_staged_next v state next inputs a i r r.fields takes_we is carry wes (phases is) wires fields;
      phase = has.phase_after;
      update_error = has.update_error;
    }

-- the net that tells of a write that changes the fields, by whether the register has a shadow
write_by : (v : Values) (i : ℕ) (b : Bool) (commit takes_we : Bool) → (b ≡ true → v (commit_net i) ≡ commit ∷ []) → v (we i) ≡ takes_we ∷ []
    → v (cond b (commit_net i) (we i)) ≡ cond b commit takes_we ∷ []
write_by v i true commit takes_we commits wes = commits refl
write_by v i false commit takes_we commits wes = wes

-- it tells of just such a write
pub write_is : (v state next inputs : Values) (face : LaidFace) (target : Target) (a : Access) (i : ℕ) (r : RegDesc) → CarryAccess v a
    → v (we i) ≡ takes_write face target a (state_in state).values i r ∷ [] → v (re i) ≡ takes_read face target a i ∷ [] → (has_shadow r ≡ true → PhaseWires v state next i)
    → RegisterWires v state next inputs r → AllHold v state next (cond (has_shadow r) (shadow_entries i r) [])
    → v (write_net i r) ≡ writes_fields face target a (state_in state) i r ∷ []
write_is v state next inputs face target a i r carry wes res phases wires shadow =
    let takes_we : Bool = takes_write face target a (state_in state).values i r in
    let commit : Bool = commits (bit_of (state (phase_net i))) takes_we (equals_staged a (state_in state).staged r) in
    write_by v i (has_shadow r) commit takes_we
    (λ is. (shadow_holds v state next inputs a i r takes_we (takes_read face target a i) is carry wes res (phases is) wires (shadow_there v state next (has_shadow r) (shadow_entries i r) shadow is)).commit)
    wes
    ∙ ap (λ b. cond b commit takes_we ∷ []) (has_shadow_is r)
