-- The drivers of a register module: its flip-flops drive just the wires of its states, and just its outputs are assigned.
use Rattle.std.proofs.Common.{◌≡◌, ℕ, ◌+◌, Bool, true, false, cond, List, [], ◌∷◌, ◌++◌, refl, ap, sym, ◌∙◌, arith, append_assoc, append-nil}
use Rattle.cg_svspec.specs.Tree.{Expression, Port, Entry, wire, drive, assign, inst}
use Rattle.cg_svspec.specs.Printable.{AllOf}
use Rattle.cg_svspec.specs.Register.{input_port, output_port}
use Rattle.cg_svspec.specs.WellFormed.{instance_driven, driven_by_connections, inputs_of, outputs_of}
use Rattle.cg_desc.specs.declared.block.FieldDesc.{FieldDesc}
use Rattle.cg_desc.specs.declared.block.RegDesc.{RegDesc}
use Rattle.cg_desc.specs.declared.block.Item.{Item}
use Rattle.cg_desc.specs.declared.block.Item.TheVariants.{Reg, Window, SkipTo, Reserved}
use Rattle.cg_desc.specs.declared.block.LaidRow.{LaidRow}
use Rattle.cg_desc.specs.declared.block.LaidFace.{LaidFace}
use Rattle.cg_regspec.specs.NetNames.{reg_error, reg_rdata, phase_net, state_net, staged_net, next_staged_net, update_error_net, q_net, qe_net, re_net, d_net, de_net}
use Rattle.cg_regspec.specs.RegisterModule.{width_of, has_q, has_qe, has_re, port_if, has_d, has_de, has_shadow, field_ports, fields_ports, item_ports, rows_ports, states_of, item_states, rows_states, rows_entries, all_ones, answer_entries, entry_if, stage_of, field_views, field_updates, field_entries, fields_entries, item_fields, rows_fields, item_windows, rows_windows, shadow_entries, flop, staged_flop, flops_of, item_flops, rows_flops, register_entries, register_module}
use Rattle.cg_svspec.proofs.Parts.{all_join}
use Rattle.cg_svspec.proofs.WellCounts.{count, count-append, plain_of, assigned_of, Balanced}

-- ---- lists put together

-- the plain wires of two lists
plain-append : (xs ys : List Entry) → plain_of (xs ++ ys) ≡ plain_of xs ++ plain_of ys
plain-append [] ys = refl
plain-append (wire w n ∷ xs) ys = ap (λ z. n ∷ z) (plain-append xs ys)
plain-append (drive w n x ∷ xs) ys = plain-append xs ys
plain-append (assign n x ∷ xs) ys = plain-append xs ys
plain-append (inst m ps n cs ∷ xs) ys = plain-append xs ys

-- the nets that two lists assign
assigned-append : (xs ys : List Entry) → assigned_of (xs ++ ys) ≡ assigned_of xs ++ assigned_of ys
assigned-append [] ys = refl
assigned-append (wire w n ∷ xs) ys = assigned-append xs ys
assigned-append (drive w n x ∷ xs) ys = assigned-append xs ys
assigned-append (assign n x ∷ xs) ys = ap (λ z. n ∷ z) (assigned-append xs ys)
assigned-append (inst m ps n cs ∷ xs) ys = assigned-append xs ys

-- the nets that the instances of two lists drive
instance-append : (inputs : List (List ℕ)) (xs ys : List Entry) → instance_driven inputs (xs ++ ys) ≡ instance_driven inputs xs ++ instance_driven inputs ys
instance-append inputs [] ys = refl
instance-append inputs (wire w n ∷ xs) ys = instance-append inputs xs ys
instance-append inputs (drive w n x ∷ xs) ys = instance-append inputs xs ys
instance-append inputs (assign n x ∷ xs) ys = instance-append inputs xs ys
instance-append inputs (inst m ps n cs ∷ xs) ys =
    ap (λ z. driven_by_connections inputs m cs ++ z) (instance-append inputs xs ys) ∙ sym (append_assoc (driven_by_connections inputs m cs) (instance_driven inputs xs) (instance_driven inputs ys))

-- the outputs of two lists
outputs-append : (ps qs : List Port) → outputs_of (ps ++ qs) ≡ outputs_of ps ++ outputs_of qs
outputs-append [] qs = refl
outputs-append (p ∷ ps) qs = by p.input (outputs-append ps qs) where
  by : (b : Bool) → outputs_of (ps ++ qs) ≡ outputs_of ps ++ outputs_of qs
      → cond b (outputs_of (ps ++ qs)) (p.name ∷ outputs_of (ps ++ qs)) ≡ cond b (outputs_of ps) (p.name ∷ outputs_of ps) ++ outputs_of qs
  by true later = later
  by false later = ap (λ z. p.name ∷ z) later

-- ---- kinds of entries

-- the entry gives a net an expression
abbrev pub IsDriven : Entry → Type 0
IsDriven (wire w n) = ⊥
IsDriven (drive w n x) = Unit {0}
IsDriven (assign n x) = Unit {0}
IsDriven (inst m ps n cs) = ⊥

-- such entries declare no plain wire
driven_plain : (es : List Entry) → AllOf IsDriven es → plain_of es ≡ []
driven_plain [] a = refl
driven_plain (wire w n ∷ es) a = absurd a.0
driven_plain (drive w n x ∷ es) a = driven_plain es a.1
driven_plain (assign n x ∷ es) a = driven_plain es a.1
driven_plain (inst m ps n cs ∷ es) a = absurd a.0

-- and have no instance
driven_instance : (inputs : List (List ℕ)) (es : List Entry) → AllOf IsDriven es → instance_driven inputs es ≡ []
driven_instance inputs [] a = refl
driven_instance inputs (wire w n ∷ es) a = absurd a.0
driven_instance inputs (drive w n x ∷ es) a = driven_instance inputs es a.1
driven_instance inputs (assign n x ∷ es) a = driven_instance inputs es a.1
driven_instance inputs (inst m ps n cs ∷ es) a = absurd a.0

-- the wires of the rows have expressions
pub rows_driven : (all : List LaidRow) (i : ℕ) (before : Expression) (rows : List LaidRow) → AllOf IsDriven (rows_entries all i before rows)
rows_driven all i before [] = tt
rows_driven all i before (row ∷ rows) = (tt, (tt, (tt, (tt, (tt, (tt, rows_driven all (i + 1) _ rows))))))

-- and none is an assignment
rows_assigned : (all : List LaidRow) (i : ℕ) (before : Expression) (rows : List LaidRow) → assigned_of (rows_entries all i before rows) ≡ []
rows_assigned all i before [] = refl
rows_assigned all i before (row ∷ rows) = rows_assigned all (i + 1) _ rows

-- so has such an entry that is there where a test holds
driven_if : (b : Bool) (e : Entry) → IsDriven e → AllOf IsDriven (entry_if b e)
driven_if true e driven = (driven, tt)
driven_if false e driven = tt

-- so have the wires of a stored field
updates_driven : (b : Bool) (i : ℕ) (r : RegDesc) (f : FieldDesc) → AllOf IsDriven (cond b [] (field_updates i r f))
updates_driven true i r f = tt
updates_driven false i r f = (tt, (tt, driven_if (has_shadow r) _ tt))

-- so have all entries of a field
field_driven : (i : ℕ) (r : RegDesc) (f : FieldDesc) → AllOf IsDriven (field_entries i r f)
field_driven i r f =
    all_join IsDriven (cond r.hwext [] (field_updates i r f)) (field_views i r f) (updates_driven r.hwext i r f)
    (all_join IsDriven (entry_if (has_q r f) _) _ (driven_if (has_q r f) _ tt)
    (all_join IsDriven (entry_if (has_qe r f) _) _ (driven_if (has_qe r f) _ tt) (driven_if (has_re r f) _ tt)))

-- of all fields of a register
fields_driven : (i : ℕ) (r : RegDesc) (fs : List FieldDesc) → AllOf IsDriven (fields_entries i r fs)
fields_driven i r [] = tt
fields_driven i r (f ∷ fs) = all_join IsDriven (field_entries i r f) (fields_entries i r fs) (field_driven i r f) (fields_driven i r fs)

-- of a shadow
shadow_driven : (b : Bool) (i : ℕ) (r : RegDesc) → AllOf IsDriven (cond b (shadow_entries i r) [])
shadow_driven true i r = (tt, (tt, (tt, (tt, tt))))
shadow_driven false i r = tt

-- of an item
item_driven : (i : ℕ) (item : Item) → AllOf IsDriven (item_fields i item)
item_driven i (Reg r) =
    all_join IsDriven (cond (has_shadow r) (shadow_entries i r) []) (fields_entries i r r.fields) (shadow_driven (has_shadow r) i r) (fields_driven i r r.fields)
item_driven i (Window w) = tt
item_driven i (SkipTo to at) = tt
item_driven i (Reserved words at) = tt

-- of all rows
pub rows_fields_driven : (i : ℕ) (rows : List LaidRow) → AllOf IsDriven (rows_fields i rows)
rows_fields_driven i [] = tt
rows_fields_driven i (row ∷ rows) = all_join IsDriven (item_fields i row.item) (rows_fields (i + 1) rows) (item_driven i row.item) (rows_fields_driven (i + 1) rows)

-- so have the entries of a window
item_windows_driven : (i : ℕ) (item : Item) → AllOf IsDriven (item_windows i item)
item_windows_driven i (Reg r) = tt
item_windows_driven i (Window w) = (tt, (tt, (tt, (tt, (tt, tt)))))
item_windows_driven i (SkipTo to at) = tt
item_windows_driven i (Reserved words at) = tt

-- of all windows
pub rows_windows_driven : (i : ℕ) (rows : List LaidRow) → AllOf IsDriven (rows_windows i rows)
rows_windows_driven i [] = tt
rows_windows_driven i (row ∷ rows) = all_join IsDriven (item_windows i row.item) (rows_windows (i + 1) rows) (item_windows_driven i row.item) (rows_windows_driven (i + 1) rows)

-- ---- states and flip-flops

-- what a list says of states: nothing is driven or assigned
record OfStates (inputs : List (List ℕ)) (es : List Entry) : Type 0 where
  instances : instance_driven inputs es ≡ []
  assigned : assigned_of es ≡ []

-- two such lists
states_join : {inputs : List (List ℕ)} {xs ys : List Entry} → OfStates inputs xs → OfStates inputs ys → OfStates inputs (xs ++ ys)
states_join {inputs} {xs} {ys} here later = record {
  instances = instance-append inputs xs ys ∙ rw (here.instances, later.instances) refl;
  assigned = assigned-append xs ys ∙ rw (here.assigned, later.assigned) refl;
}

-- a wire that is there where a test holds
state_if : (inputs : List (List ℕ)) (b : Bool) (w : ℕ) (n : List ℕ) → OfStates inputs (entry_if b (wire w n))
state_if inputs true w n = record { instances = refl; assigned = refl }
state_if inputs false w n = record { instances = refl; assigned = refl }

-- the states of a register
states_of_states : (inputs : List (List ℕ)) (r : RegDesc) (fs : List FieldDesc) → OfStates inputs (states_of r fs)
states_of_states inputs r [] = record { instances = refl; assigned = refl }
states_of_states inputs r (f ∷ fs) =
    let later = states_join (state_if inputs (has_shadow r) (width_of f) (staged_net r f)) (states_of_states inputs r fs) in
    record { instances = later.instances; assigned = later.assigned }

-- of an item
item_of_states : (inputs : List (List ℕ)) (i : ℕ) (item : Item) → OfStates inputs (item_states i item)
item_of_states inputs i (Reg r) = states_join (by r.hwext) (state_if inputs (has_shadow r) 1 (phase_net i)) where
  by : (b : Bool) → OfStates inputs (cond b [] (states_of r r.fields))
  by true = record { instances = refl; assigned = refl }
  by false = states_of_states inputs r r.fields
item_of_states inputs i (Window w) = record { instances = refl; assigned = refl }
item_of_states inputs i (SkipTo to at) = record { instances = refl; assigned = refl }
item_of_states inputs i (Reserved words at) = record { instances = refl; assigned = refl }

-- of all rows
rows_of_states : (inputs : List (List ℕ)) (i : ℕ) (rows : List LaidRow) → OfStates inputs (rows_states i rows)
rows_of_states inputs i [] = record { instances = refl; assigned = refl }
rows_of_states inputs i (row ∷ rows) = states_join (item_of_states inputs i row.item) (rows_of_states inputs (i + 1) rows)

-- what a list of flip-flops drives, against the states; no wire is declared, and nothing assigned
record OfFlops (inputs : List (List ℕ)) (states flops : List Entry) : Type 0 where
  instances : instance_driven inputs flops ≡ plain_of states
  plain : plain_of flops ≡ []
  assigned : assigned_of flops ≡ []

-- two such pairs
flops_join : {inputs : List (List ℕ)} {xs ys fs gs : List Entry} → OfFlops inputs xs fs → OfFlops inputs ys gs → OfFlops inputs (xs ++ ys) (fs ++ gs)
flops_join {inputs} {xs} {ys} {fs} {gs} here later = record {
  instances = instance-append inputs fs gs ∙ (rw (here.instances, later.instances) refl ∙ sym (plain-append xs ys));
  plain = plain-append fs gs ∙ rw (here.plain, later.plain) refl;
  assigned = assigned-append fs gs ∙ rw (here.assigned, later.assigned) refl;
}

-- a flip-flop that is there where a test holds, with its state
flop_if : (inputs : List (List ℕ)) (b : Bool) (w reset : ℕ) (instance from to : List ℕ) → OfFlops inputs (entry_if b (wire w to)) (entry_if b (flop w reset instance from to))
flop_if inputs true w reset instance from to = record { instances = refl; plain = refl; assigned = refl }
flop_if inputs false w reset instance from to = record { instances = refl; plain = refl; assigned = refl }

-- the flip-flops of a register drive its states
flops_of_flops : (inputs : List (List ℕ)) (r : RegDesc) (fs : List FieldDesc) → OfFlops inputs (states_of r fs) (flops_of r fs)
flops_of_flops inputs r [] = record { instances = refl; plain = refl; assigned = refl }
flops_of_flops inputs r (f ∷ fs) =
    let later : OfFlops inputs (entry_if (has_shadow r) (wire (width_of f) (staged_net r f)) ++ states_of r fs) (entry_if (has_shadow r) (staged_flop r f) ++ flops_of r fs)
    = flops_join (flop_if inputs (has_shadow r) (width_of f) 0 _ _ (staged_net r f)) (flops_of_flops inputs r fs) in
    record { instances = ap (λ z. state_net r f ∷ z) later.instances; plain = later.plain; assigned = later.assigned }

-- those of an item
item_of_flops : (inputs : List (List ℕ)) (i : ℕ) (item : Item) → OfFlops inputs (item_states i item) (item_flops i item)
item_of_flops inputs i (Reg r) = flops_join (by r.hwext) (flop_if inputs (has_shadow r) 1 0 _ _ (phase_net i)) where
  by : (b : Bool) → OfFlops inputs (cond b [] (states_of r r.fields)) (cond b [] (flops_of r r.fields))
  by true = record { instances = refl; plain = refl; assigned = refl }
  by false = flops_of_flops inputs r r.fields
item_of_flops inputs i (Window w) = record { instances = refl; plain = refl; assigned = refl }
item_of_flops inputs i (SkipTo to at) = record { instances = refl; plain = refl; assigned = refl }
item_of_flops inputs i (Reserved words at) = record { instances = refl; plain = refl; assigned = refl }

-- those of all rows
rows_of_flops : (inputs : List (List ℕ)) (i : ℕ) (rows : List LaidRow) → OfFlops inputs (rows_states i rows) (rows_flops i rows)
rows_of_flops inputs i [] = record { instances = refl; plain = refl; assigned = refl }
rows_of_flops inputs i (row ∷ rows) = flops_join (item_of_flops inputs i row.item) (rows_of_flops inputs (i + 1) rows)

-- ---- outputs

-- a port that is an input is no output
no_output : (b : Bool) (w : ℕ) (n : List ℕ) → outputs_of (port_if b (input_port w n)) ≡ []
no_output true w n = refl
no_output false w n = refl

-- what is assigned where an output is there
views_assigned : (a b c : Bool) (q qe re : List ℕ) (x y z : Expression) (w : ℕ) (others : List Port) → outputs_of others ≡ []
    → assigned_of (entry_if a (assign q x) ++ (entry_if b (assign qe y) ++ entry_if c (assign re z)))
    ≡ outputs_of (port_if a (output_port w q) ++ (port_if b (output_port 1 qe) ++ (port_if c (output_port 1 re) ++ others)))
views_assigned true true true q qe re x y z w others e = ap (λ l. q ∷ qe ∷ re ∷ l) (sym e)
views_assigned true true false q qe re x y z w others e = ap (λ l. q ∷ qe ∷ l) (sym e)
views_assigned true false true q qe re x y z w others e = ap (λ l. q ∷ re ∷ l) (sym e)
views_assigned true false false q qe re x y z w others e = ap (λ l. q ∷ l) (sym e)
views_assigned false true true q qe re x y z w others e = ap (λ l. qe ∷ re ∷ l) (sym e)
views_assigned false true false q qe re x y z w others e = ap (λ l. qe ∷ l) (sym e)
views_assigned false false true q qe re x y z w others e = ap (λ l. re ∷ l) (sym e)
views_assigned false false false q qe re x y z w others e = sym e

-- the wires of a stored field are no assignments
updates_assign_none : (b : Bool) (i : ℕ) (r : RegDesc) (f : FieldDesc) → assigned_of (cond b [] (field_updates i r f)) ≡ []
updates_assign_none true i r f = refl
updates_assign_none false i r f = by (has_shadow r) where
  by : (b : Bool) → assigned_of (entry_if b (drive (width_of f) (next_staged_net r f) (stage_of i r f))) ≡ []
  by true = refl
  by false = refl

-- what hardware brings is no output
brought_no_output : (r : RegDesc) (f : FieldDesc) → outputs_of (port_if (has_d r f) (input_port (width_of f) (d_net r f)) ++ port_if (has_de r f) (input_port 1 (de_net r f))) ≡ []
brought_no_output r f =
    outputs-append (port_if (has_d r f) (input_port (width_of f) (d_net r f))) (port_if (has_de r f) (input_port 1 (de_net r f)))
    ∙ rw (no_output (has_d r f) (width_of f) (d_net r f), no_output (has_de r f) 1 (de_net r f)) refl

-- just the outputs of a field are assigned among its entries
field_outputs : (i : ℕ) (r : RegDesc) (f : FieldDesc) → assigned_of (field_entries i r f) ≡ outputs_of (field_ports r f)
field_outputs i r f =
    assigned-append (cond r.hwext [] (field_updates i r f)) (field_views i r f)
    ∙ (ap (λ z. z ++ assigned_of (field_views i r f)) (updates_assign_none r.hwext i r f)
    ∙ views_assigned (has_q r f) (has_qe r f) (has_re r f) (q_net r f) (qe_net r f) (re_net r f) _ _ _ (width_of f) _ (brought_no_output r f))

-- those of all fields of a register
fields_outputs : (i : ℕ) (r : RegDesc) (fs : List FieldDesc) → assigned_of (fields_entries i r fs) ≡ outputs_of (fields_ports r fs)
fields_outputs i r [] = refl
fields_outputs i r (f ∷ fs) =
    assigned-append (field_entries i r f) (fields_entries i r fs)
    ∙ (rw (field_outputs i r f, fields_outputs i r fs) refl ∙ sym (outputs-append (field_ports r f) (fields_ports r fs)))

-- so is the update error of a register with a shadow
shadow_outputs : (b : Bool) (i : ℕ) (r : RegDesc) → assigned_of (cond b (shadow_entries i r) []) ≡ outputs_of (port_if b (output_port 1 (update_error_net r)))
shadow_outputs true i r = refl
shadow_outputs false i r = refl

-- those of a register
register_outputs : (n : List ℕ) (i : ℕ) (r : RegDesc) → count n (outputs_of (item_ports (Reg r))) ≡ count n (assigned_of (item_fields i (Reg r)))
register_outputs n i r =
    let update : List Port = port_if (has_shadow r) (output_port 1 (update_error_net r)) in
    let shadow : List Entry = cond (has_shadow r) (shadow_entries i r) [] in
    let ports : count n (outputs_of (item_ports (Reg r))) ≡ count n (outputs_of (fields_ports r r.fields)) + count n (outputs_of update) =
    ap (count n) (outputs-append (fields_ports r r.fields) update) ∙ count-append n (outputs_of (fields_ports r r.fields)) (outputs_of update) in
    let entries : count n (assigned_of (item_fields i (Reg r))) ≡ count n (assigned_of shadow) + count n (assigned_of (fields_entries i r r.fields)) =
    ap (count n) (assigned-append shadow (fields_entries i r r.fields)) ∙ count-append n (assigned_of shadow) (assigned_of (fields_entries i r r.fields)) in
    let of_fields : count n (assigned_of (fields_entries i r r.fields)) ≡ count n (outputs_of (fields_ports r r.fields)) = ap (count n) (fields_outputs i r r.fields) in
    let of_shadow : count n (assigned_of shadow) ≡ count n (outputs_of update) = ap (count n) (shadow_outputs (has_shadow r) i r) in
    omega (arith, ports, entries, of_fields, of_shadow)

-- an item's outputs are assigned among the fields or the windows
item_outputs : (n : List ℕ) (i : ℕ) (item : Item) → count n (outputs_of (item_ports item)) ≡ count n (assigned_of (item_fields i item)) + count n (assigned_of (item_windows i item))
item_outputs n i (Reg r) = register_outputs n i r ∙ omega arith
item_outputs n i (Window w) = omega arith
item_outputs n i (SkipTo to at) = omega arith
item_outputs n i (Reserved words at) = omega arith

-- those of all rows
rows_outputs : (n : List ℕ) (i : ℕ) (rows : List LaidRow) → count n (outputs_of (rows_ports rows)) ≡ count n (assigned_of (rows_fields i rows)) + count n (assigned_of (rows_windows i rows))
rows_outputs n i [] = omega arith
rows_outputs n i (row ∷ rows) =
    let split : count n (outputs_of (rows_ports (row ∷ rows))) ≡ count n (outputs_of (item_ports row.item)) + count n (outputs_of (rows_ports rows))
    = ap (count n) (outputs-append (item_ports row.item) (rows_ports rows)) ∙ count-append n (outputs_of (item_ports row.item)) (outputs_of (rows_ports rows)) in
    let here : count n (outputs_of (item_ports row.item)) ≡ count n (assigned_of (item_fields i row.item)) + count n (assigned_of (item_windows i row.item))
    = item_outputs n i row.item in
    let fields : count n (assigned_of (rows_fields i (row ∷ rows))) ≡ count n (assigned_of (item_fields i row.item)) + count n (assigned_of (rows_fields (i + 1) rows))
    = ap (count n) (assigned-append (item_fields i row.item) (rows_fields (i + 1) rows)) ∙ count-append n (assigned_of (item_fields i row.item)) (assigned_of (rows_fields (i + 1) rows)) in
    let windows : count n (assigned_of (rows_windows i (row ∷ rows))) ≡ count n (assigned_of (item_windows i row.item)) + count n (assigned_of (rows_windows (i + 1) rows))
    = ap (count n) (assigned-append (item_windows i row.item) (rows_windows (i + 1) rows)) ∙ count-append n (assigned_of (item_windows i row.item)) (assigned_of (rows_windows (i + 1) rows)) in
    omega (arith, split, here, fields, windows, rows_outputs n (i + 1) rows)

-- ---- the whole

-- the drivers of a list in four parts behind the states
parts_driven : (inputs : List (List ℕ)) (states rows answers fields windows flops : List Entry) → OfStates inputs states → AllOf IsDriven rows → AllOf IsDriven answers → AllOf IsDriven fields
    → AllOf IsDriven windows → instance_driven inputs (states ++ (rows ++ (answers ++ (fields ++ (windows ++ flops))))) ≡ instance_driven inputs flops
parts_driven inputs states rows answers fields windows flops s a b c d =
    skip states _ s.instances ∙ (skip rows _ (driven_instance inputs rows a) ∙ (skip answers _ (driven_instance inputs answers b)
    ∙ (skip fields _ (driven_instance inputs fields c) ∙ skip windows _ (driven_instance inputs windows d)))) where
      skip : (xs ys : List Entry) → instance_driven inputs xs ≡ [] → instance_driven inputs (xs ++ ys) ≡ instance_driven inputs ys
      skip xs ys e = instance-append inputs xs ys ∙ ap (λ z. z ++ instance_driven inputs ys) e

-- the plain wires of a list in four parts between states and flip-flops
parts_plain : (states rows answers fields windows flops : List Entry) → AllOf IsDriven rows → AllOf IsDriven answers → AllOf IsDriven fields → AllOf IsDriven windows → plain_of flops ≡ []
    → plain_of (states ++ (rows ++ (answers ++ (fields ++ (windows ++ flops))))) ≡ plain_of states
parts_plain states rows answers fields windows flops a b c d e =
    plain-append states _ ∙ (ap (λ z. plain_of states ++ z) (skip rows _ (driven_plain rows a) ∙ (skip answers _ (driven_plain answers b)
    ∙ (skip fields _ (driven_plain fields c) ∙ (skip windows _ (driven_plain windows d) ∙ e)))) ∙ append-nil (plain_of states)) where
      skip : (xs ys : List Entry) → plain_of xs ≡ [] → plain_of (xs ++ ys) ≡ plain_of ys
      skip xs ys e = plain-append xs ys ∙ ap (λ z. z ++ plain_of ys) e

-- the nets that such a list assigns
parts_assigned : (states rows answers fields windows flops : List Entry) → assigned_of states ≡ [] → assigned_of rows ≡ [] → assigned_of flops ≡ []
    → assigned_of (states ++ (rows ++ (answers ++ (fields ++ (windows ++ flops))))) ≡ assigned_of answers ++ (assigned_of fields ++ assigned_of windows)
parts_assigned states rows answers fields windows flops a b c =
    skip states _ a ∙ (skip rows _ b ∙ (assigned-append answers _ ∙ ap (λ z. assigned_of answers ++ z) (assigned-append fields _
    ∙ ap (λ z. assigned_of fields ++ z) (assigned-append windows flops ∙ (ap (λ z. assigned_of windows ++ z) c ∙ append-nil (assigned_of windows)))))) where
      skip : (xs ys : List Entry) → assigned_of xs ≡ [] → assigned_of (xs ++ ys) ≡ assigned_of ys
      skip xs ys e = assigned-append xs ys ∙ ap (λ z. z ++ assigned_of ys) e

-- the entries of the answer have expressions
pub answers_driven : (rows : List LaidRow) → AllOf IsDriven (answer_entries rows)
answers_driven rows = (tt, (tt, (tt, (tt, (tt, tt)))))

-- the flip-flops of a register module drive its states
pub module_instances : (inputs : List (List ℕ)) (face : LaidFace) → instance_driven inputs (register_entries face) ≡ plain_of (rows_states 0 face.rows)
module_instances inputs face =
    parts_driven inputs (rows_states 0 face.rows) (rows_entries face.rows 0 all_ones face.rows) (answer_entries face.rows) (rows_fields 0 face.rows) (rows_windows 0 face.rows) (rows_flops 0 face.rows)
    (rows_of_states inputs 0 face.rows) (rows_driven face.rows 0 all_ones face.rows) (answers_driven face.rows) (rows_fields_driven 0 face.rows) (rows_windows_driven 0 face.rows)
    ∙ (rows_of_flops inputs 0 face.rows).instances

-- the plain wires of a register module are its states
module_plain : (face : LaidFace) → plain_of (register_entries face) ≡ plain_of (rows_states 0 face.rows)
module_plain face =
    parts_plain (rows_states 0 face.rows) (rows_entries face.rows 0 all_ones face.rows) (answer_entries face.rows) (rows_fields 0 face.rows) (rows_windows 0 face.rows) (rows_flops 0 face.rows)
    (rows_driven face.rows 0 all_ones face.rows) (answers_driven face.rows) (rows_fields_driven 0 face.rows) (rows_windows_driven 0 face.rows) (rows_of_flops [] 0 face.rows).plain

-- the nets that a register module assigns
module_assigned : (face : LaidFace) → assigned_of (register_entries face) ≡ reg_error ∷ reg_rdata ∷ (assigned_of (rows_fields 0 face.rows) ++ assigned_of (rows_windows 0 face.rows))
module_assigned face =
    parts_assigned (rows_states 0 face.rows) (rows_entries face.rows 0 all_ones face.rows) (answer_entries face.rows) (rows_fields 0 face.rows) (rows_windows 0 face.rows) (rows_flops 0 face.rows)
    (rows_of_states [] 0 face.rows).assigned (rows_assigned face.rows 0 all_ones face.rows) (rows_of_flops [] 0 face.rows).assigned

-- a register module is balanced
pub module_balanced : (name : List ℕ) (face : LaidFace) → Balanced (register_module name face)
unfolding register_module
module_balanced name face = record {
  driven = λ n.
      let instances : count n (instance_driven (inputs_of (register_module name face).ports) (register_entries face)) ≡ count n (plain_of (register_entries face)) =
      ap (count n) (module_instances (inputs_of (register_module name face).ports) face ∙ sym (module_plain face)) in
      let outputs : count n (assigned_of (register_entries face)) ≡ count n (outputs_of (register_module name face).ports) =
      ap (count n) (module_assigned face) ∙ omega (arith, count-append n (assigned_of (rows_fields 0 face.rows)) (assigned_of (rows_windows 0 face.rows)), rows_outputs n 0 face.rows) in
      omega (arith, instances, outputs);
}
