-- The states of a register module at reset are the reset values of its fields.
use Rattle.std.proofs.Common.{◌≡◌, ℕ, ◌+◌, Bool, true, false, not, cond, List, [], ◌∷◌, refl, sym, ◌∙◌}
use Rattle.cg_svspec.specs.Printable.{AllOf}
use Rattle.cg_svspec.specs.Bits.{bits}
use Rattle.cg_svspec.specs.Tree.{Expression, net, Entry, wire}
use Rattle.cg_svspec.specs.Value.{Values, IsReset, IsResetIn}
use Rattle.cg_desc.specs.Shadow.{is_shadowed}
use Rattle.cg_desc.specs.BlockStep.{Where, EachField, EachRow}
use Rattle.cg_desc.specs.declared.block.FieldDesc.{FieldDesc}
use Rattle.cg_desc.specs.declared.block.RegDesc.{RegDesc}
use Rattle.cg_desc.specs.declared.block.Item.{Item}
use Rattle.cg_desc.specs.declared.block.Item.TheVariants.{Reg, Window, SkipTo, Reserved}
use Rattle.cg_desc.specs.declared.block.LaidRow.{LaidRow}
use Rattle.cg_desc.specs.declared.block.LaidFace.{LaidFace}
use Rattle.cg_regspec.specs.NetNames.{rd, phase_net, state_net, staged_net}
use Rattle.cg_regspec.specs.RegisterModule.{width_of, has_q, has_qe, has_re, has_shadow, register_module, entry_if, states_of, item_states, rows_states, rows_entries, all_ones, answer_entries, field_updates, field_views, field_entries, fields_entries, item_fields, rows_fields, item_windows, rows_windows, shadow_entries, staged_flop, phase_flop, flops_of, item_flops, rows_flops}
use Rattle.cg_regspec.specs.Meaning.{ShadowIsReset, ItemIsReset, StateIsReset}
use Rattle.cg_svspec.proofs.Parts.{all_front, all_back, all_join}
use Rattle.cg_regspec.proofs.Tables.{has_shadow_is}
use Rattle.cg_regspec.proofs.Wires.{shadow_stored}
use Rattle.cg_regspec.proofs.Fields.{where_true}

-- ---- from the states at reset

-- the fields of a register that has flip-flops
fields_reset : (state : Values) (r : RegDesc) (fs : List FieldDesc) → AllOf (IsResetIn state) (flops_of r fs) → EachField (λ f. state (state_net r f) ≡ bits (width_of f) f.resval) fs
fields_reset state r [] reset = tt
fields_reset state r (f ∷ fs) reset =
    (reset.0, fields_reset state r fs (all_back (IsResetIn state) (entry_if (has_shadow r) (staged_flop r f)) (flops_of r fs) reset.1))

-- by whether the register is external
register_reset : (state : Values) (r : RegDesc) (external : Bool) → AllOf (IsResetIn state) (cond external [] (flops_of r r.fields))
    → Where (not external) (EachField (λ f. state (state_net r f) ≡ bits (width_of f) f.resval) r.fields)
register_reset state r true reset = tt
register_reset state r false reset = fields_reset state r r.fields reset

-- what an entry that is there where the test holds says
reset_there : (state : Values) (b : Bool) (e : Entry) → AllOf (IsResetIn state) (entry_if b e) → b ≡ true → IsResetIn state e
reset_there state true e reset is = reset.0
reset_there state false e reset is = cc

-- the staged values of a register with a shadow
staged_reset : (state : Values) (r : RegDesc) (fs : List FieldDesc) → has_shadow r ≡ true → AllOf (IsResetIn state) (flops_of r fs) → EachField (λ f. state (staged_net r f) ≡ bits (width_of f) 0) fs
staged_reset state r [] is reset = tt
staged_reset state r (f ∷ fs) is reset =
    let shadow : List Entry = entry_if (has_shadow r) (staged_flop r f) in (
      reset_there state (has_shadow r) (staged_flop r f) (all_front (IsResetIn state) shadow (flops_of r fs) reset.1) is,
      staged_reset state r fs is (all_back (IsResetIn state) shadow (flops_of r fs) reset.1),
    )

-- a stored register has its flip-flops
stored_reset : (state : Values) (external : Bool) (es : List Entry) → AllOf (IsResetIn state) (cond external [] es) → external ≡ false → AllOf (IsResetIn state) es
stored_reset state true es reset is = cc
stored_reset state false es reset is = reset

-- a phase of one bit
phase_reset : (state : Values) (i : ℕ) → IsResetIn state (phase_flop i) → state (phase_net i) ≡ false ∷ []
unfolding bits
phase_reset state i reset = reset

-- a shadowed register has nothing staged
shadow_reset : (state : Values) (i : ℕ) (r : RegDesc) → AllOf (IsResetIn state) (cond r.hwext [] (flops_of r r.fields)) → AllOf (IsResetIn state) (entry_if (has_shadow r) (phase_flop i))
    → has_shadow r ≡ true → ShadowIsReset state i r
shadow_reset state i r fields phase is = record {
  staged = staged_reset state r r.fields is (stored_reset state r.hwext (flops_of r r.fields) fields (shadow_stored r is));
  phase = phase_reset state i (reset_there state (has_shadow r) (phase_flop i) phase is);
}

-- by the kind of item
item_reset : (state : Values) (i : ℕ) (item : Item) → AllOf (IsResetIn state) (item_flops i item) → ItemIsReset state i item
item_reset state i (Reg r) reset =
    let fields : AllOf (IsResetIn state) (cond r.hwext [] (flops_of r r.fields)) = all_front (IsResetIn state) (cond r.hwext [] (flops_of r r.fields)) (entry_if (has_shadow r) (phase_flop i)) reset in
    let phase : AllOf (IsResetIn state) (entry_if (has_shadow r) (phase_flop i)) = all_back (IsResetIn state) (cond r.hwext [] (flops_of r r.fields)) (entry_if (has_shadow r) (phase_flop i)) reset in
    record {
      fields = register_reset state r r.hwext fields;
      shadow = where_true (is_shadowed r) _ (λ e. shadow_reset state i r fields phase (has_shadow_is r ∙ e));
    }
item_reset state i (Window w) reset = tt
item_reset state i (SkipTo to at) reset = tt
item_reset state i (Reserved words at) reset = tt

-- all rows from number i on
rows_reset : (state : Values) (i : ℕ) (rows : List LaidRow) → AllOf (IsResetIn state) (rows_flops i rows) → EachRow (ItemIsReset state) i rows
rows_reset state i [] reset = tt
rows_reset state i (row ∷ rows) reset = (
  item_reset state i row.item (all_front (IsResetIn state) (item_flops i row.item) (rows_flops (i + 1) rows) reset),
  rows_reset state (i + 1) rows (all_back (IsResetIn state) (item_flops i row.item) (rows_flops (i + 1) rows) reset),
)

-- the states at reset of the register module are the fields' reset values, with nothing staged
pub module_resets : (name : List ℕ) (face : LaidFace) (state : Values) → IsReset (register_module name face) state → StateIsReset face state
unfolding register_module
module_resets name face state reset =
    rows_reset state 0 face.rows
    (all_back (IsResetIn state) (rows_windows 0 face.rows) _
    (all_back (IsResetIn state) (rows_fields 0 face.rows) _
    (all_back (IsResetIn state) (answer_entries face.rows) _
    (all_back (IsResetIn state) (rows_entries face.rows 0 all_ones face.rows) _ (all_back (IsResetIn state) (rows_states 0 face.rows) _ reset)))))

-- ---- back to them

-- an entry that is there where the test holds
back_if : (state : Values) (b : Bool) (e : Entry) → (b ≡ true → IsResetIn state e) → AllOf (IsResetIn state) (entry_if b e)
back_if state true e is = (is refl, tt)
back_if state false e is = tt

-- a fact where its test holds
where_is : (b : Bool) (P : Type 0) → Where b P → b ≡ true → P
where_is true P there is = there
where_is false P there is = cc

-- the flip-flops of a register
fields_back : (state : Values) (r : RegDesc) (fs : List FieldDesc) → EachField (λ f. state (state_net r f) ≡ bits (width_of f) f.resval) fs
    → (has_shadow r ≡ true → EachField (λ f. state (staged_net r f) ≡ bits (width_of f) 0) fs) → AllOf (IsResetIn state) (flops_of r fs)
fields_back state r [] reset staged = tt
fields_back state r (f ∷ fs) reset staged = (
  reset.0,
  all_join (IsResetIn state) (entry_if (has_shadow r) (staged_flop r f)) (flops_of r fs) (back_if state (has_shadow r) (staged_flop r f) (λ e. (staged e).0))
      (fields_back state r fs reset.1 (λ e. (staged e).1)),
)

-- by whether it is external
register_back : (state : Values) (r : RegDesc) (external : Bool) → Where (not external) (EachField (λ f. state (state_net r f) ≡ bits (width_of f) f.resval) r.fields)
    → (has_shadow r ≡ true → EachField (λ f. state (staged_net r f) ≡ bits (width_of f) 0) r.fields) → AllOf (IsResetIn state) (cond external [] (flops_of r r.fields))
register_back state r true reset staged = tt
register_back state r false reset staged = fields_back state r r.fields reset staged

-- a phase
phase_back : (state : Values) (i : ℕ) → state (phase_net i) ≡ false ∷ [] → IsResetIn state (phase_flop i)
unfolding bits
phase_back state i reset = reset

-- by the kind of item
item_back : (state : Values) (i : ℕ) (item : Item) → ItemIsReset state i item → AllOf (IsResetIn state) (item_flops i item)
item_back state i (Reg r) reset =
    let shadow : has_shadow r ≡ true → ShadowIsReset state i r = λ e. where_is (is_shadowed r) (ShadowIsReset state i r) reset.shadow (sym (has_shadow_is r) ∙ e) in
    all_join (IsResetIn state) (cond r.hwext [] (flops_of r r.fields)) (entry_if (has_shadow r) (phase_flop i)) (register_back state r r.hwext reset.fields (λ e. (shadow e).staged))
    (back_if state (has_shadow r) (phase_flop i) (λ e. phase_back state i (shadow e).phase))
item_back state i (Window w) reset = tt
item_back state i (SkipTo to at) reset = tt
item_back state i (Reserved words at) reset = tt

-- all rows' flip-flops
flops_back : (state : Values) (i : ℕ) (rows : List LaidRow) → EachRow (ItemIsReset state) i rows → AllOf (IsResetIn state) (rows_flops i rows)
flops_back state i [] reset = tt
flops_back state i (row ∷ rows) reset =
    all_join (IsResetIn state) (item_flops i row.item) (rows_flops (i + 1) rows) (item_back state i row.item reset.0) (flops_back state (i + 1) rows reset.1)

-- ---- nothing is asked of an entry that is no instance

-- an entry of which nothing is asked, that is there where the test holds
free_if : (state : Values) (b : Bool) (e : Entry) → IsResetIn state e → AllOf (IsResetIn state) (entry_if b e)
free_if state true e free = (free, tt)
free_if state false e free = tt

-- the wires of a register's states
states_free : (state : Values) (r : RegDesc) (fs : List FieldDesc) → AllOf (IsResetIn state) (states_of r fs)
states_free state r [] = tt
states_free state r (f ∷ fs) =
    (tt, all_join (IsResetIn state) (entry_if (has_shadow r) (wire (width_of f) (staged_net r f))) (states_of r fs) (free_if state (has_shadow r) _ tt) (states_free state r fs))

-- by whether the register is external
register_states_free : (state : Values) (r : RegDesc) (external : Bool) → AllOf (IsResetIn state) (cond external [] (states_of r r.fields))
register_states_free state r true = tt
register_states_free state r false = states_free state r r.fields

-- by the kind of item
item_states_free : (state : Values) (i : ℕ) (item : Item) → AllOf (IsResetIn state) (item_states i item)
item_states_free state i (Reg r) =
    all_join (IsResetIn state) (cond r.hwext [] (states_of r r.fields)) (entry_if (has_shadow r) (wire 1 (phase_net i))) (register_states_free state r r.hwext) (free_if state (has_shadow r) _ tt)
item_states_free state i (Window w) = tt
item_states_free state i (SkipTo to at) = tt
item_states_free state i (Reserved words at) = tt

-- the wires of all states
rows_states_free : (state : Values) (i : ℕ) (rows : List LaidRow) → AllOf (IsResetIn state) (rows_states i rows)
rows_states_free state i [] = tt
rows_states_free state i (row ∷ rows) =
    all_join (IsResetIn state) (item_states i row.item) (rows_states (i + 1) rows) (item_states_free state i row.item) (rows_states_free state (i + 1) rows)

-- the wires of all rows
rows_entries_free : (state : Values) (all : List LaidRow) (i : ℕ) (before : Expression) (rows : List LaidRow) → AllOf (IsResetIn state) (rows_entries all i before rows)
rows_entries_free state all i before [] = tt
rows_entries_free state all i before (row ∷ rows) = (tt, (tt, (tt, (tt, (tt, (tt, rows_entries_free state all (i + 1) (net (rd i)) rows))))))

-- the assigns of a field's outputs
views_free : (state : Values) (i : ℕ) (r : RegDesc) (f : FieldDesc) → AllOf (IsResetIn state) (field_views i r f)
views_free state i r f =
    all_join (IsResetIn state) (entry_if (has_q r f) _) _ (free_if state (has_q r f) _ tt)
    (all_join (IsResetIn state) (entry_if (has_qe r f) _) (entry_if (has_re r f) _) (free_if state (has_qe r f) _ tt) (free_if state (has_re r f) _ tt))

-- a field's wires
updates_free : (state : Values) (i : ℕ) (r : RegDesc) (f : FieldDesc) (external : Bool) → AllOf (IsResetIn state) (cond external [] (field_updates i r f))
updates_free state i r f true = tt
updates_free state i r f false = (tt, (tt, free_if state (has_shadow r) _ tt))

-- the entries of a register's fields
fields_free : (state : Values) (i : ℕ) (r : RegDesc) (fs : List FieldDesc) → AllOf (IsResetIn state) (fields_entries i r fs)
fields_free state i r [] = tt
fields_free state i r (f ∷ fs) =
    all_join (IsResetIn state) (field_entries i r f) (fields_entries i r fs)
    (all_join (IsResetIn state) (cond r.hwext [] (field_updates i r f)) (field_views i r f) (updates_free state i r f r.hwext) (views_free state i r f)) (fields_free state i r fs)

-- the entries that a shadow has
shadow_free : (state : Values) (i : ℕ) (r : RegDesc) (b : Bool) → AllOf (IsResetIn state) (cond b (shadow_entries i r) [])
shadow_free state i r true = (tt, (tt, (tt, (tt, tt))))
shadow_free state i r false = tt

-- by the kind of item
item_fields_free : (state : Values) (i : ℕ) (item : Item) → AllOf (IsResetIn state) (item_fields i item)
item_fields_free state i (Reg r) =
    all_join (IsResetIn state) (cond (has_shadow r) (shadow_entries i r) []) (fields_entries i r r.fields) (shadow_free state i r (has_shadow r)) (fields_free state i r r.fields)
item_fields_free state i (Window w) = tt
item_fields_free state i (SkipTo to at) = tt
item_fields_free state i (Reserved words at) = tt

-- the entries of all fields
rows_fields_free : (state : Values) (i : ℕ) (rows : List LaidRow) → AllOf (IsResetIn state) (rows_fields i rows)
rows_fields_free state i [] = tt
rows_fields_free state i (row ∷ rows) =
    all_join (IsResetIn state) (item_fields i row.item) (rows_fields (i + 1) rows) (item_fields_free state i row.item) (rows_fields_free state (i + 1) rows)

-- a window's assigns
item_windows_free : (state : Values) (i : ℕ) (item : Item) → AllOf (IsResetIn state) (item_windows i item)
item_windows_free state i (Reg r) = tt
item_windows_free state i (Window w) = (tt, (tt, (tt, (tt, (tt, tt)))))
item_windows_free state i (SkipTo to at) = tt
item_windows_free state i (Reserved words at) = tt

-- the assigns of all windows
rows_windows_free : (state : Values) (i : ℕ) (rows : List LaidRow) → AllOf (IsResetIn state) (rows_windows i rows)
rows_windows_free state i [] = tt
rows_windows_free state i (row ∷ rows) =
    all_join (IsResetIn state) (item_windows i row.item) (rows_windows (i + 1) rows) (item_windows_free state i row.item) (rows_windows_free state (i + 1) rows)

-- the fields' reset values are states at reset of the register module
pub module_has_reset : (name : List ℕ) (face : LaidFace) (state : Values) → StateIsReset face state → IsReset (register_module name face) state
unfolding register_module
module_has_reset name face state reset =
    all_join (IsResetIn state) (rows_states 0 face.rows) _ (rows_states_free state 0 face.rows)
    (all_join (IsResetIn state) (rows_entries face.rows 0 all_ones face.rows) _ (rows_entries_free state face.rows 0 all_ones face.rows)
    (all_join (IsResetIn state) (answer_entries face.rows) _ (tt, (tt, (tt, (tt, (tt, tt)))))
    (all_join (IsResetIn state) (rows_fields 0 face.rows) _ (rows_fields_free state 0 face.rows)
    (all_join (IsResetIn state) (rows_windows 0 face.rows) (rows_flops 0 face.rows) (rows_windows_free state 0 face.rows) (flops_back state 0 face.rows reset)))))
