-- The cells of a clock have the values of every valuation.
use Rattle.std.proofs.Common.{◌≡◌, ℕ, ◌≤◌, ◌⊎◌, inl, inr, Bool, true, false, cond, Option, Some, List, [], ◌∷◌, ◌++◌, map, length, refl, ap, sym, subst, ◌∙◌, codes, arith}
use Rattle.std.specs.Str.{bytes_eq}
use Rattle.cg_svspec.specs.Bits.{bits}
use Rattle.cg_svspec.specs.Names.{Among, Differ, port_names, entry_names}
use Rattle.cg_svspec.specs.Printable.{AllOf}
use Rattle.cg_svspec.specs.Tree.{Expression, net, lit, Port, Entry, wire, drive, assign, inst, Module}
use Rattle.cg_svspec.specs.Value.{Values, Valuation, HasWidths, InputFits, StateFits, StateFitsIn, parameter_at, connection_at}
use Rattle.cg_svspec.specs.WellFormed.{Net, stated, WellFormed, EntriesFit, inputs_of, outputs_of, port_nets, driven_by_connections, instance_driven, expression_driven, AllAmong}
use Rattle.cg_svspec.specs.Register.{IsRegister, IsRegisterEntry, access_ports}
use Rattle.cg_svspec.proofs.BitLists.{length-bits}
use Rattle.cg_svspec.proofs.Exists.{has_valuation, q_is_driven}
use Rattle.cg_svspec.proofs.KeepsWidths.{keeps_widths}
use Rattle.cg_svspec.proofs.NamesLemmas.{name_is_itself, same_name, not_chosen, among_parts, among_front, among_back, differ_front, differ_back, differ_across}
use Rattle.cg_svspec.proofs.Widths.{is_flop}
use Rattle.cg_sveval.specs.declared.Cell.{Cell}
use Rattle.cg_sveval.specs.Cells.{AreCells, HasCells, InOrder, input_nets, output_nets, state_nets}
use Rattle.cg_sveval.specs.Tables.{cell_value, next_cells, output_cells}
use Rattle.cg_sveval.proofs.Clocks.{Matches, names_of, in_order, given_value, outputs_match, nexts_match}
use Rattle.cg_sveval.proofs.Resets.{bare_net, state_here}
use Rattle.cg_sveval.proofs.Tables.{Steps, TableAgrees, table_agrees}

-- ---- widths of what is given

given_fits : (values : Values) (nets : List Net) (cells : List Cell) → AreCells nets cells → HasCells values nets cells → (n : Net) → Among n nets → length (values n.name) ≡ n.width
given_fits values nets cells cells_are has n a = ap length (sym (given_value values nets cells cells_are has n a)) ∙ length-bits n.width (cell_value cells n.name)

inputs_fit : (given : Values) (ps : List Port) → ((n : Net) → Among n (input_nets ps) → length (given n.name) ≡ n.width) → AllOf (InputFits given) ps
inputs_fit given [] fits = tt
inputs_fit given (p ∷ ps) fits = by (inputs_fit given ps) p.input fits where
  by : (((n : Net) → Among n (input_nets ps) → length (given n.name) ≡ n.width) → AllOf (InputFits given) ps) → (b : Bool)
      → ((n : Net) → Among n (cond b (stated p.name p.width ∷ input_nets ps) (input_nets ps)) → length (given n.name) ≡ n.width)
      → cond b (length (given p.name) ≡ p.width) (Unit {0}) × AllOf (InputFits given) ps
  by later true fits = (fits (stated p.name p.width) (inl refl), later (λ n a. fits n (inr a)))
  by later false fits = (tt, later fits)

state_fits : (held : Values) (width : ℕ) (w q : Option Expression) (n : List ℕ) → w ≡ Some (lit 0 width) → q ≡ Some (net n) → length (held n) ≡ width → StateFits held w q
state_fits held width w q n is_w is_q fits = rw (is_w, is_q) fits

states_fit : (inputs : List (List ℕ)) (held : Values) (nets : List Net) (known : List (List ℕ)) (es : List Entry) → EntriesFit inputs nets known es → AllOf IsRegisterEntry es
    → ((n : Net) → Among n (state_nets es) → length (held n.name) ≡ n.width) → AllOf (StateFitsIn held) es
states_fit inputs held nets known [] fit flops fits = tt
states_fit inputs held nets known (wire w k ∷ es) fit flops fits = (tt, states_fit inputs held (stated k w ∷ nets) known es fit flops.1 fits)
states_fit inputs held nets known (drive w k x ∷ es) fit flops fits = (tt, states_fit inputs held (stated k w ∷ nets) (k ∷ known) es fit.2 flops.1 fits)
states_fit inputs held nets known (assign k x ∷ es) fit flops fits = (tt, states_fit inputs held nets (k ∷ known) es fit.2 flops.1 fits)
states_fit inputs held nets known (inst m ps k cs ∷ es) fit flops fits =
    let flop = is_flop m nets ps cs flops.0.0 fit.0 in
    let q = bare_net (connection_at (codes "q_o") cs) flop.bare in
    let all : (j : Net) → Among j (stated q.name flop.width ∷ state_nets es) → length (held j.name) ≡ j.width =
    λ j a. fits j (subst (λ z. Among j z) (sym (state_here m k nets ps cs es q.name flops.0.0 flop q.is)) a) in
    let here = state_fits held flop.width (parameter_at (codes "Width") ps) (connection_at (codes "q_o") cs) q.name flop.width_is q.is (all (stated q.name flop.width) (inl refl)) in
    (rw flops.0.0 here, states_fit inputs held nets known es fit.2 flops.1 (λ j a. all j (inr a)))

-- ---- names differ

output_named : (ps : List Port) (n : List ℕ) → Among n (names_of (output_nets ps)) → Among n (port_names ps)
output_named [] n a = a
output_named (p ∷ ps) n a = by (output_named ps n) p.input a where
  by : (Among n (names_of (output_nets ps)) → Among n (port_names ps)) → (b : Bool) → Among n (names_of (cond b (output_nets ps) (stated p.name p.width ∷ output_nets ps))) → Among n (p.name ∷ port_names ps)
  by later true a = inr (later a)
  by later false (inl e) = inl e
  by later false (inr a) = inr (later a)

outputs_differ : (ps : List Port) → Differ (port_names ps) → Differ (names_of (output_nets ps))
outputs_differ [] differ = tt
outputs_differ (p ∷ ps) differ = by p.input (outputs_differ ps differ.1) where
  by : (b : Bool) → Differ (names_of (output_nets ps)) → Differ (names_of (cond b (output_nets ps) (stated p.name p.width ∷ output_nets ps)))
  by true later = later
  by false later = ((λ a. differ.0 (output_named ps p.name a)), later)

state_named : (inputs : List (List ℕ)) (nets : List Net) (known : List (List ℕ)) (es : List Entry) → EntriesFit inputs nets known es → AllOf IsRegisterEntry es
    → (n : List ℕ) → Among n (names_of (state_nets es)) → Among n (instance_driven inputs es)
state_named inputs nets known [] fit flops n a = a
state_named inputs nets known (wire w k ∷ es) fit flops n a = state_named inputs (stated k w ∷ nets) known es fit flops.1 n a
state_named inputs nets known (drive w k x ∷ es) fit flops n a = state_named inputs (stated k w ∷ nets) (k ∷ known) es fit.2 flops.1 n a
state_named inputs nets known (assign k x ∷ es) fit flops n a = state_named inputs nets (k ∷ known) es fit.2 flops.1 n a
state_named inputs nets known (inst m ps k cs ∷ es) fit flops n a =
    let flop = is_flop m nets ps cs flops.0.0 fit.0 in
    let q = bare_net (connection_at (codes "q_o") cs) flop.bare in
    split (state_named inputs nets known es fit.2 flops.1 n) q.name (q_is_driven inputs m cs q.name flops.0.0 q.is)
    (subst (λ z. Among n (names_of z)) (state_here m k nets ps cs es q.name flops.0.0 flop q.is) a) where
      split : (Among n (names_of (state_nets es)) → Among n (instance_driven inputs es)) → (q : List ℕ) → Among q (driven_by_connections inputs m cs)
          → Among n (q ∷ names_of (state_nets es)) → Among n (driven_by_connections inputs m cs ++ instance_driven inputs es)
      split later q there (inl e) = among_front n (driven_by_connections inputs m cs) (instance_driven inputs es) (subst (λ z. Among z (driven_by_connections inputs m cs)) (sym e) there)
      split later q there (inr b) = among_back n (driven_by_connections inputs m cs) (instance_driven inputs es) (later b)

states_differ : (inputs : List (List ℕ)) (nets : List Net) (known : List (List ℕ)) (es : List Entry) → EntriesFit inputs nets known es → AllOf IsRegisterEntry es
    → Differ (instance_driven inputs es) → Differ (names_of (state_nets es))
states_differ inputs nets known [] fit flops differ = tt
states_differ inputs nets known (wire w k ∷ es) fit flops differ = states_differ inputs (stated k w ∷ nets) known es fit flops.1 differ
states_differ inputs nets known (drive w k x ∷ es) fit flops differ = states_differ inputs (stated k w ∷ nets) (k ∷ known) es fit.2 flops.1 differ
states_differ inputs nets known (assign k x ∷ es) fit flops differ = states_differ inputs nets (k ∷ known) es fit.2 flops.1 differ
states_differ inputs nets known (inst m ps k cs ∷ es) fit flops differ =
    let flop = is_flop m nets ps cs flops.0.0 fit.0 in
    let q = bare_net (connection_at (codes "q_o") cs) flop.bare in
    let here = driven_by_connections inputs m cs in
    let below = instance_driven inputs es in
    subst (λ z. Differ (names_of z)) (sym (state_here m k nets ps cs es q.name flops.0.0 flop q.is)) (
      (λ a. differ_across q.name here below differ (q_is_driven inputs m cs q.name flops.0.0 q.is) (state_named inputs nets known es fit.2 flops.1 q.name a)),
      states_differ inputs nets known es fit.2 flops.1 (differ_back here below differ),
    )

-- ---- the whole

all_join : (ps qs : List Port) → AllOf (λ p. p.width ≤ 32) ps → AllOf (λ p. p.width ≤ 32) qs → AllOf (λ p. p.width ≤ 32) (ps ++ qs)
all_join [] qs a b = b
all_join (p ∷ ps) qs a b = (a.0, all_join ps qs a.1 b)

access_few : AllOf (λ p. p.width ≤ 32) access_ports
access_few = (omega arith, (omega arith, (omega arith, (omega arith, (omega arith, (omega arith, (omega arith, (omega arith, (omega arith, tt)))))))))

ports_few : (m : Module) → IsRegister m → AllOf (λ p. p.width ≤ 32) m.ports
ports_few m is = subst (λ z. AllOf (λ (p : Port). p.width ≤ 32) z) (sym is.ports) (all_join access_ports is.others access_few is.narrow)

of_them : (ns known : List (List ℕ)) → AllAmong ns known → (n : List ℕ) → Among n ns → Among n known
of_them [] known all n a = absurd a
of_them (m ∷ ns) known all n (inl e) = subst (λ z. Among z known) (sym e) all.0
of_them (m ∷ ns) known all n (inr a) = of_them ns known all.1 n a

widths : (m : Module) → WellFormed m → IsRegister m → (inputs states : List Cell) → AreCells (input_nets m.ports) inputs → AreCells (state_nets m.entries) states → (given held : Values)
    → HasCells given (input_nets m.ports) inputs → HasCells held (state_nets m.entries) states → HasWidths m given held
widths m well is inputs states ins_are states_are given held has_ins has_states = record {
  inputs_fit = inputs_fit given m.ports (given_fits given (input_nets m.ports) inputs ins_are has_ins);
  states_fit = states_fit (inputs_of m.ports) held (port_nets m.ports) (inputs_of m.ports ++ instance_driven (inputs_of m.ports) m.entries) m.entries well.entries_fit is.entries
      (given_fits held (state_nets m.entries) states states_are has_states);
}

-- the cells of a clock match every valuation
pub record ClockMatches (m : Module) (table v next : Values) : Type 0 where
  pub outputs : Matches v (output_nets m.ports) (output_cells table m.ports)
  pub nexts : Matches next (state_nets m.entries) (next_cells table m.entries)

pub clock_matches : (m : Module) → WellFormed m → IsRegister m → (inputs states : List Cell) → AreCells (input_nets m.ports) inputs → AreCells (state_nets m.entries) states
    → (s : Steps m inputs states) → (given held v next : Values) → HasCells given (input_nets m.ports) inputs → HasCells held (state_nets m.entries) states → Valuation m given held v next
    → ClockMatches m s.table v next
clock_matches m well is inputs states ins_are states_are s given held v next has_ins has_states valuation =
    let agrees = table_agrees m well is inputs states ins_are states_are s given held v next has_ins has_states valuation in
    let fits = widths m well is inputs states ins_are states_are given held has_ins has_states in
    let kept = keeps_widths m well is in
    record {
      outputs = outputs_match s.table v m.ports (ports_few m is) (kept.outputs_fit given held v next fits valuation)
          (λ n a. driven s.table v n agrees (of_them (outputs_of m.ports) (expression_driven m.entries ++ instance_driven (inputs_of m.ports) m.entries) well.outputs_driven n a));
      nexts = nexts_match (inputs_of m.ports) s.table v held next (port_nets m.ports) (inputs_of m.ports ++ instance_driven (inputs_of m.ports) m.entries) m.entries well.entries_fit is.entries
          valuation.entries_hold (kept.next_fits given held v next fits valuation) agrees.known agrees.driven;
    } where
      driven : (table v : Values) (n : List ℕ) → TableAgrees m table v → Among n (expression_driven m.entries ++ instance_driven (inputs_of m.ports) m.entries) → table n ≡ v n
      driven table v n agrees a = split (among_parts n (expression_driven m.entries) (instance_driven (inputs_of m.ports) m.entries) a) where
        split : Among n (expression_driven m.entries) ⊎ Among n (instance_driven (inputs_of m.ports) m.entries) → table n ≡ v n
        split (inl b) = agrees.driven n b
        split (inr b) = agrees.known n (among_back n (inputs_of m.ports) (instance_driven (inputs_of m.ports) m.entries) b)

pub outputs_named_apart : (m : Module) → WellFormed m → Differ (names_of (output_nets m.ports))
outputs_named_apart m well = outputs_differ m.ports (differ_front (port_names m.ports) (entry_names m.entries) well.names_differ)

pub states_named_apart : (m : Module) → WellFormed m → IsRegister m → Differ (names_of (state_nets m.entries))
states_named_apart m well is =
    states_differ (inputs_of m.ports) (port_nets m.ports) (inputs_of m.ports ++ instance_driven (inputs_of m.ports) m.entries) m.entries well.entries_fit is.entries
    (differ_back (expression_driven m.entries) (instance_driven (inputs_of m.ports) m.entries) well.drivers_differ)

-- ---- there is a valuation

-- the width of the first net of the name
abbrev width_at : List Net → List ℕ → ℕ
width_at [] n = 0
width_at (k ∷ ks) n = cond (bytes_eq k.name n) k.width (width_at ks n)

net_named : (ns : List Net) (n : Net) → Among n ns → Among n.name (names_of ns)
net_named [] n a = absurd a
net_named (k ∷ ns) n (inl e) = inl (ap (λ (z : Net). z.name) e)
net_named (k ∷ ns) n (inr a) = inr (net_named ns n a)

width_is : (ns : List Net) → Differ (names_of ns) → (n : Net) → Among n ns → width_at ns n.name ≡ n.width
width_is [] differ n a = absurd a
width_is (k ∷ ns) differ n (inl e) = rw (e, name_is_itself k.name) refl
width_is (k ∷ ns) differ n (inr a) =
    not_chosen (bytes_eq k.name n.name) k.width (width_at ns n.name) (λ e. differ.0 (subst (λ z. Among z (names_of ns)) (sym (same_name k.name n.name e)) (net_named ns n a)))
    ∙ width_is ns differ.1 n a

cell_named : (cs : List Cell) (c : Cell) → Among c cs → Among c.name (map (λ z. z.name) cs)
cell_named [] c a = absurd a
cell_named (d ∷ cs) c (inl e) = inl (ap (λ (z : Cell). z.name) e)
cell_named (d ∷ cs) c (inr a) = inr (cell_named cs c a)

value_is : (cs : List Cell) → Differ (map (λ c. c.name) cs) → (c : Cell) → Among c cs → cell_value cs c.name ≡ c.value
value_is [] differ c a = absurd a
value_is (d ∷ cs) differ c (inl e) = rw (e, name_is_itself d.name) refl
value_is (d ∷ cs) differ c (inr a) =
    not_chosen (bytes_eq d.name c.name) d.value (cell_value cs c.name) (λ e. differ.0 (subst (λ z. Among z (map (λ w. w.name) cs)) (sym (same_name d.name c.name e)) (cell_named cs c a)))
    ∙ value_is cs differ.1 c a

-- the values that the cells give
abbrev values_of : List Net → List Cell → Values
values_of nets cells n = bits (width_at nets n) (cell_value cells n)

have_them : (nets : List Net) (cells : List Cell) → Differ (names_of nets) → AreCells nets cells → HasCells (values_of nets cells) nets cells
have_them nets cells differ cells_are n c a b same =
    ap (λ z. bits z (cell_value cells n.name)) (width_is nets differ n a) ∙ ap (λ z. bits n.width (cell_value cells z)) (sym same) ∙ ap (bits n.width) (value_is cells cells_are.differ c b)

input_named : (ps : List Port) (n : List ℕ) → Among n (names_of (input_nets ps)) → Among n (port_names ps)
input_named [] n a = a
input_named (p ∷ ps) n a = by (input_named ps n) p.input a where
  by : (Among n (names_of (input_nets ps)) → Among n (port_names ps)) → (b : Bool) → Among n (names_of (cond b (stated p.name p.width ∷ input_nets ps) (input_nets ps))) → Among n (p.name ∷ port_names ps)
  by later false a = inr (later a)
  by later true (inl e) = inl e
  by later true (inr a) = inr (later a)

inputs_differ : (ps : List Port) → Differ (port_names ps) → Differ (names_of (input_nets ps))
inputs_differ [] differ = tt
inputs_differ (p ∷ ps) differ = by p.input (inputs_differ ps differ.1) where
  by : (b : Bool) → Differ (names_of (input_nets ps)) → Differ (names_of (cond b (stated p.name p.width ∷ input_nets ps) (input_nets ps)))
  by false later = later
  by true later = ((λ a. differ.0 (input_named ps p.name a)), later)

-- the cells of a clock stand in order
pub record InOrders (m : Module) (table : Values) : Type 0 where
  pub outputs : InOrder (output_nets m.ports) (output_cells table m.ports)
  pub nexts : InOrder (state_nets m.entries) (next_cells table m.entries)

pub some_clock : (m : Module) → WellFormed m → IsRegister m → (inputs states : List Cell) → AreCells (input_nets m.ports) inputs → AreCells (state_nets m.entries) states
    → (s : Steps m inputs states) → InOrders m s.table
some_clock m well is inputs states ins_are states_are s =
    let given = values_of (input_nets m.ports) inputs in
    let held = values_of (state_nets m.entries) states in
    let has_ins = have_them (input_nets m.ports) inputs (inputs_differ m.ports (differ_front (port_names m.ports) (entry_names m.entries) well.names_differ)) ins_are in
    let has_states = have_them (state_nets m.entries) states (states_named_apart m well is) states_are in
    let some = has_valuation m well is given held (widths m well is inputs states ins_are states_are given held has_ins has_states) in
    let all = clock_matches m well is inputs states ins_are states_are s given held some.0 some.1 has_ins has_states some.2 in
    record {
      outputs = in_order some.0 (output_nets m.ports) (output_cells s.table m.ports) all.outputs;
      nexts = in_order some.1 (state_nets m.entries) (next_cells s.table m.entries) all.nexts;
    }
