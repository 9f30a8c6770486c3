-- A well-formed module has a valuation: its entries, in their order, give each net its value that no instance drives.
use Rattle.std.proofs.Common.{◌≡◌, ℕ, Bool, true, false, cond, ◌⊎◌, inl, inr, Option, Some, None, List, [], ◌∷◌, ◌++◌, refl, ap, sym, subst, ◌∙◌, codes}
use Rattle.std.specs.Str.{bytes_eq}
use Rattle.cg_svspec.specs.Bits.{Bits}
use Rattle.cg_svspec.specs.Tree.{Expression, net, cut, lit, cat, inv, any, and, or, equal, pick, Expressions, none, more, Port, Connection, Entry, wire, drive, assign, inst}
use Rattle.cg_svspec.specs.Names.{Among, Differ, is_among}
use Rattle.cg_svspec.specs.Printable.{AllOf}
use Rattle.cg_svspec.specs.Value.{Values, eval, eval_parts, connection_at, flop_name, FlopHolds, AllHold, InputHolds}
use Rattle.cg_svspec.specs.WellFormed.{Net, Uses, UsesAll, EntriesFit, is_output, driven_nets, driven_by_connections, instance_driven, expression_driven, inputs_of, port_nets, NoneAmong, stated, ModuleHasValuation}
use Rattle.cg_svspec.specs.Register.{RegisterHasValuation}
use Rattle.cg_svspec.proofs.NamesLemmas.{name_is_itself, same_name, not_chosen, among_by_test, test_of_among, among_front, among_back, among_parts, differ_front, differ_back, differ_across}

-- ---- values, name by name

-- the values with another one for a name
abbrev with_value : Values → List ℕ → Bits → Values
with_value v n x = λ m. cond (bytes_eq m n) x (v m)

-- the name has that value
value_here : (v : Values) (n : List ℕ) (x : Bits) → with_value v n x n ≡ x
value_here v n x = rw (name_is_itself n) refl

-- and the others have theirs
value_elsewhere : (v : Values) (m n : List ℕ) (x : Bits) → (m ≡ n → ⊥) → with_value v n x m ≡ v m
value_elsewhere v m n x other = not_chosen (bytes_eq m n) x (v m) (λ e. other (same_name m n e))

-- each entry's value in turn
abbrev run : Values → List Entry → Values
run v [] = v
run v (wire w n ∷ es) = run v es
run v (drive w n x ∷ es) = run (with_value v n (eval v x)) es
run v (assign n x ∷ es) = run (with_value v n (eval v x)) es
run v (inst m ps n cs ∷ es) = run v es

-- the entries that have an expression use only what has a value above them, and drive a new name each
abbrev InOrder : List (List ℕ) → List Entry → Type 0
InOrder known [] = Unit {0}
InOrder known (wire w n ∷ es) = InOrder known es
InOrder known (drive w n x ∷ es) = (Among n known → ⊥) × Uses known x × InOrder (n ∷ known) es
InOrder known (assign n x ∷ es) = (Among n known → ⊥) × Uses known x × InOrder (n ∷ known) es
InOrder known (inst m ps n cs ∷ es) = InOrder known es

-- a name that is among some differs from one that is not
other_name : (m n : List ℕ) (known : List (List ℕ)) → Among m known → (Among n known → ⊥) → m ≡ n → ⊥
other_name m n known a new e = new (subst (λ z. Among z known) e a)

-- entries in order leave known values as they are
keeps : (v : Values) (known : List (List ℕ)) (es : List Entry) → InOrder known es → (m : List ℕ) → Among m known → run v es m ≡ v m
keeps v known [] o m a = refl
keeps v known (wire w n ∷ es) o m a = keeps v known es o m a
keeps v known (drive w n x ∷ es) o m a = keeps (with_value v n (eval v x)) (n ∷ known) es o.2 m (inr a) ∙ value_elsewhere v m n (eval v x) (other_name m n known a o.0)
keeps v known (assign n x ∷ es) o m a = keeps (with_value v n (eval v x)) (n ∷ known) es o.2 m (inr a) ∙ value_elsewhere v m n (eval v x) (other_name m n known a o.0)
keeps v known (inst p ps n cs ∷ es) o m a = keeps v known es o m a

-- two lists of values agree on these names
abbrev Agree : List (List ℕ) → Values → Values → Type 0
Agree known u v = (m : List ℕ) → Among m known → u m ≡ v m

mutual
  -- an expression has one value under values that agree on what it uses
  same_value : (known : List (List ℕ)) (u v : Values) → Agree known u v → (x : Expression) → Uses known x → eval u x ≡ eval v x
  same_value known u v same (net n) uses = same n uses
  same_value known u v same (cut n m l) uses = rw (same n uses) refl
  same_value known u v same (lit w k) uses = refl
  same_value known u v same (cat xs) uses = same_values known u v same xs uses
  same_value known u v same (inv x) uses = rw (same_value known u v same x uses) refl
  same_value known u v same (any x) uses = rw (same_value known u v same x uses) refl
  same_value known u v same (and x y) uses = rw (same_value known u v same x uses.0, same_value known u v same y uses.1) refl
  same_value known u v same (or x y) uses = rw (same_value known u v same x uses.0, same_value known u v same y uses.1) refl
  same_value known u v same (equal x y) uses = rw (same_value known u v same x uses.0, same_value known u v same y uses.1) refl
  same_value known u v same (pick c x y) uses = rw (same_value known u v same c uses.0, same_value known u v same x uses.1, same_value known u v same y uses.2) refl

  same_values : (known : List (List ℕ)) (u v : Values) → Agree known u v → (xs : Expressions) → UsesAll known xs → eval_parts u xs ≡ eval_parts v xs
  same_values known u v same none uses = refl
  same_values known u v same (more x xs) uses = rw (same_values known u v same xs uses.1, same_value known u v same x uses.0) refl

-- what the entries with an expression say of the nets
abbrev ExpressionsHold : Values → List Entry → Type 0
ExpressionsHold v [] = Unit {0}
ExpressionsHold v (wire w n ∷ es) = ExpressionsHold v es
ExpressionsHold v (drive w n x ∷ es) = (v n ≡ eval v x) × ExpressionsHold v es
ExpressionsHold v (assign n x ∷ es) = (v n ≡ eval v x) × ExpressionsHold v es
ExpressionsHold v (inst m ps n cs ∷ es) = ExpressionsHold v es

-- a net that is driven here has the value of its expression in the end
driven_value : (v : Values) (known : List (List ℕ)) (n : List ℕ) (x : Expression) (es : List Entry) → (Among n known → ⊥) → Uses known x → InOrder (n ∷ known) es
    → run (with_value v n (eval v x)) es n ≡ eval (run (with_value v n (eval v x)) es) x
driven_value v known n x es new uses o =
    keeps (with_value v n (eval v x)) (n ∷ known) es o n (inl refl) ∙ (value_here v n (eval v x)
    ∙ sym (same_value known (run (with_value v n (eval v x)) es) v
    (λ m a. keeps (with_value v n (eval v x)) (n ∷ known) es o m (inr a) ∙ value_elsewhere v m n (eval v x) (other_name m n known a new)) x uses))

-- the values after all entries are such
expressions_hold : (v : Values) (known : List (List ℕ)) (es : List Entry) → InOrder known es → ExpressionsHold (run v es) es
expressions_hold v known [] o = tt
expressions_hold v known (wire w n ∷ es) o = expressions_hold v known es o
expressions_hold v known (drive w n x ∷ es) o = (driven_value v known n x es o.0 o.1 o.2, expressions_hold (with_value v n (eval v x)) (n ∷ known) es o.2)
expressions_hold v known (assign n x ∷ es) o = (driven_value v known n x es o.0 o.1 o.2, expressions_hold (with_value v n (eval v x)) (n ∷ known) es o.2)
expressions_hold v known (inst m ps n cs ∷ es) o = expressions_hold v known es o

-- ---- well-formed entries are in order

-- names that are not among the known ones stay so behind a name that differs
still_new : (n : List ℕ) (ns known : List (List ℕ)) → (Among n ns → ⊥) → ((m : List ℕ) → Among m (n ∷ ns) → Among m known → ⊥) → (m : List ℕ) → Among m ns → Among m (n ∷ known) → ⊥
still_new n ns known alone new m a (inl e) = alone (subst (λ z. Among z ns) e a)
still_new n ns known alone new m a (inr b) = new m (inr a) b

-- the entries of a well-formed module are in order where their drivers are new
in_order : (inputs : List (List ℕ)) (nets : List Net) (known : List (List ℕ)) (es : List Entry) → EntriesFit inputs nets known es → Differ (expression_driven es)
    → ((n : List ℕ) → Among n (expression_driven es) → Among n known → ⊥) → InOrder known es
in_order inputs nets known [] fit d new = tt
in_order inputs nets known (wire w n ∷ es) fit d new = in_order inputs (stated n w ∷ nets) known es fit d new
in_order inputs nets known (drive w n x ∷ es) fit d new =
    (new n (inl refl), fit.1, in_order inputs (stated n w ∷ nets) (n ∷ known) es fit.2 d.1 (still_new n (expression_driven es) known d.0 new))
in_order inputs nets known (assign n x ∷ es) fit d new =
    (new n (inl refl), fit.1, in_order inputs nets (n ∷ known) es fit.2 d.1 (still_new n (expression_driven es) known d.0 new))
in_order inputs nets known (inst m ps n cs ∷ es) fit d new = in_order inputs nets known es fit.2 d new

-- ---- the flip-flops

-- the next value of the state of this name, where it is this flip-flop's
abbrev next_by : Values → Option Expression → Option Expression → List ℕ → Bits → Bits
next_by v (Some d) (Some (net q)) n later = cond (bytes_eq n q) (eval v d) later
next_by v _ _ n later = later

-- the next states, by the first flip-flop that has the name at `q_o`
abbrev next_states : Values → List Entry → Values
next_states v [] n = []
next_states v (wire w k ∷ es) n = next_states v es n
next_states v (drive w k x ∷ es) n = next_states v es n
next_states v (assign k x ∷ es) n = next_states v es n
next_states v (inst m ps k cs ∷ es) n =
    cond (bytes_eq m flop_name) (next_by v (connection_at (codes "d_i") cs) (connection_at (codes "q_o") cs) n (next_states v es n)) (next_states v es n)

-- an output of a flip-flop is a connection whose name ends so
is_flop_output : (inputs : List (List ℕ)) (m : List ℕ) (c : Connection) → bytes_eq m flop_name ≡ true → bytes_eq c.name (codes "q_o") ≡ true → is_output inputs m c ≡ true
is_flop_output inputs m c part is = rw (part, same_name c.name (codes "q_o") is) refl

-- equal values of an answer
same_value_of : (x y : Expression) → Some x ≡ Some y → x ≡ y
same_value_of x y e = cc

-- the connection of that name drives its net
first_is_driven : (inputs : List (List ℕ)) (m : List ℕ) (c : Connection) (q : List ℕ) (later : List (List ℕ)) → bytes_eq m flop_name ≡ true → bytes_eq c.name (codes "q_o") ≡ true
    → c.value ≡ net q → Among q (cond (is_output inputs m c) (driven_nets c.value) [] ++ later)
first_is_driven inputs m c q later part here value =
    subst (λ b. Among q (cond b (driven_nets c.value) [] ++ later)) (sym (is_flop_output inputs m c part here))
    (subst (λ x. Among q (driven_nets x ++ later)) (sym value) (inl refl))

-- the net at `q_o` of a flip-flop is driven by it
pub q_is_driven : (inputs : List (List ℕ)) (m : List ℕ) (cs : List Connection) (q : List ℕ) → bytes_eq m flop_name ≡ true → connection_at (codes "q_o") cs ≡ Some (net q)
    → Among q (driven_by_connections inputs m cs)
q_is_driven inputs m [] q part is = cc
q_is_driven inputs m (c ∷ cs) q part is = by (q_is_driven inputs m cs q part) (bytes_eq c.name (codes "q_o")) refl is where
  by : (connection_at (codes "q_o") cs ≡ Some (net q) → Among q (driven_by_connections inputs m cs)) → (b : Bool) → bytes_eq c.name (codes "q_o") ≡ b
      → cond b (Some c.value) (connection_at (codes "q_o") cs) ≡ Some (net q) → Among q (driven_by_connections inputs m (c ∷ cs))
  by later true here found = first_is_driven inputs m c q (driven_by_connections inputs m cs) part here (same_value_of c.value (net q) found)
  by later false here found = among_back q (cond (is_output inputs m c) (driven_nets c.value) []) (driven_by_connections inputs m cs) (later found)

-- what is asked of the values and the next states at these entries
record AtStates (inputs : List (List ℕ)) (v state next : Values) (es : List Entry) : Type 0 where
  values : (n : List ℕ) → Among n (instance_driven inputs es) → v n ≡ state n
  nexts : (n : List ℕ) → Among n (instance_driven inputs es) → next n ≡ next_states v es n

-- the flip-flop holds, where its net at `q_o` is driven by it
flop_holds : (v state next : Values) (d q : Option Expression) (es : List Entry) (driven : List (List ℕ)) → ((n : List ℕ) → q ≡ Some (net n) → Among n driven)
    → ((n : List ℕ) → Among n driven → v n ≡ state n) → ((n : List ℕ) → Among n driven → next n ≡ next_by v d q n (next_states v es n))
    → FlopHolds v state next d q
flop_holds v state next None q es driven is values nexts = tt
flop_holds v state next (Some d) None es driven is values nexts = tt
flop_holds v state next (Some d) (Some (net q)) es driven is values nexts = (values q (is q refl), nexts q (is q refl) ∙ rw (name_is_itself q) refl)
flop_holds v state next (Some d) (Some (cut n m l)) es driven is values nexts = tt
flop_holds v state next (Some d) (Some (lit w k)) es driven is values nexts = tt
flop_holds v state next (Some d) (Some (cat xs)) es driven is values nexts = tt
flop_holds v state next (Some d) (Some (inv x)) es driven is values nexts = tt
flop_holds v state next (Some d) (Some (any x)) es driven is values nexts = tt
flop_holds v state next (Some d) (Some (and x y)) es driven is values nexts = tt
flop_holds v state next (Some d) (Some (or x y)) es driven is values nexts = tt
flop_holds v state next (Some d) (Some (equal x y)) es driven is values nexts = tt
flop_holds v state next (Some d) (Some (pick c x y)) es driven is values nexts = tt

-- a net that another instance drives has its next state from below
next_from_below : (v : Values) (d q : Option Expression) (n : List ℕ) (later : Bits) → ((m : List ℕ) → q ≡ Some (net m) → n ≡ m → ⊥) → next_by v d q n later ≡ later
next_from_below v None q n later other = refl
next_from_below v (Some d) None n later other = refl
next_from_below v (Some d) (Some (net q)) n later other = not_chosen (bytes_eq n q) (eval v d) later (λ e. other q refl (same_name n q e))
next_from_below v (Some d) (Some (cut k m l)) n later other = refl
next_from_below v (Some d) (Some (lit w k)) n later other = refl
next_from_below v (Some d) (Some (cat xs)) n later other = refl
next_from_below v (Some d) (Some (inv x)) n later other = refl
next_from_below v (Some d) (Some (any x)) n later other = refl
next_from_below v (Some d) (Some (and x y)) n later other = refl
next_from_below v (Some d) (Some (or x y)) n later other = refl
next_from_below v (Some d) (Some (equal x y)) n later other = refl
next_from_below v (Some d) (Some (pick c x y)) n later other = refl

-- an instance holds, and those behind it keep what is asked of the states: of a flip-flop
flop_at : (inputs : List (List ℕ)) (v state next : Values) (m : List ℕ) (cs : List Connection) (es : List Entry) → bytes_eq m flop_name ≡ true
    → Differ (driven_by_connections inputs m cs ++ instance_driven inputs es)
    → ((n : List ℕ) → Among n (driven_by_connections inputs m cs ++ instance_driven inputs es) → v n ≡ state n)
    → ((n : List ℕ) → Among n (driven_by_connections inputs m cs ++ instance_driven inputs es)
    → next n ≡ next_by v (connection_at (codes "d_i") cs) (connection_at (codes "q_o") cs) n (next_states v es n))
    → FlopHolds v state next (connection_at (codes "d_i") cs) (connection_at (codes "q_o") cs) × AtStates inputs v state next es
flop_at inputs v state next m cs es part d values nexts =
    let here = driven_by_connections inputs m cs in
    let below = instance_driven inputs es in (
      flop_holds v state next (connection_at (codes "d_i") cs) (connection_at (codes "q_o") cs) es here (λ n is. q_is_driven inputs m cs n part is)
          (λ n a. values n (among_front n here below a)) (λ n a. nexts n (among_front n here below a)),
      record {
        values = λ n a. values n (among_back n here below a);
        nexts = λ n a. nexts n (among_back n here below a)
            ∙ next_from_below v (connection_at (codes "d_i") cs) (connection_at (codes "q_o") cs) n (next_states v es n)
            (λ q is e. differ_across n here below d (subst (λ z. Among z here) (sym e) (q_is_driven inputs m cs q part is)) a);
      },
    )

-- of any instance
instance_at : (inputs : List (List ℕ)) (v state next : Values) (m : List ℕ) (cs : List Connection) (es : List Entry) (b : Bool) → bytes_eq m flop_name ≡ b
    → Differ (driven_by_connections inputs m cs ++ instance_driven inputs es)
    → ((n : List ℕ) → Among n (driven_by_connections inputs m cs ++ instance_driven inputs es) → v n ≡ state n)
    → ((n : List ℕ) → Among n (driven_by_connections inputs m cs ++ instance_driven inputs es)
    → next n ≡ cond b (next_by v (connection_at (codes "d_i") cs) (connection_at (codes "q_o") cs) n (next_states v es n)) (next_states v es n))
    → cond b (FlopHolds v state next (connection_at (codes "d_i") cs) (connection_at (codes "q_o") cs)) (Unit {0}) × AtStates inputs v state next es
instance_at inputs v state next m cs es true part d values nexts = flop_at inputs v state next m cs es part d values nexts
instance_at inputs v state next m cs es false part d values nexts =
    let here = driven_by_connections inputs m cs in
    let below = instance_driven inputs es in
    (tt, record { values = λ n a. values n (among_back n here below a); nexts = λ n a. nexts n (among_back n here below a) })

-- all entries hold, where the expressions do
all_hold : (inputs : List (List ℕ)) (v state next : Values) (es : List Entry) → Differ (instance_driven inputs es) → AtStates inputs v state next es → ExpressionsHold v es
    → AllHold v state next es
all_hold inputs v state next [] d at holds = tt
all_hold inputs v state next (wire w n ∷ es) d at holds = (tt, all_hold inputs v state next es d (record { values = at.values; nexts = at.nexts }) holds)
all_hold inputs v state next (drive w n x ∷ es) d at holds = (holds.0, all_hold inputs v state next es d (record { values = at.values; nexts = at.nexts }) holds.1)
all_hold inputs v state next (assign n x ∷ es) d at holds = (holds.0, all_hold inputs v state next es d (record { values = at.values; nexts = at.nexts }) holds.1)
all_hold inputs v state next (inst m ps k cs ∷ es) d at holds =
    let both = instance_at inputs v state next m cs es (bytes_eq m flop_name) refl d at.values at.nexts in
    (both.0, all_hold inputs v state next es (differ_back (driven_by_connections inputs m cs) (instance_driven inputs es) d) both.1 holds)

-- ---- the whole

-- none of the names is among the drivers
none_of : (n : List ℕ) (ns known : List (List ℕ)) → NoneAmong ns known → Among n ns → Among n known → ⊥
none_of n [] known free a b = absurd a
none_of n (m ∷ ns) known free (inl e) b = free.0 (subst (λ z. Among z known) e b)
none_of n (m ∷ ns) known free (inr a) b = none_of n ns known free.1 a b

-- an input port has its value, where each of the inputs has it
inputs_hold : (v inputs : Values) (ps : List Port) → ((n : List ℕ) → Among n (inputs_of ps) → v n ≡ inputs n) → AllOf (InputHolds v inputs) ps
inputs_hold v inputs [] same = tt
inputs_hold v inputs (p ∷ ps) same = by (inputs_hold v inputs ps) p.input same where
  by : (((n : List ℕ) → Among n (inputs_of ps) → v n ≡ inputs n) → AllOf (InputHolds v inputs) ps) → (b : Bool)
      → ((n : List ℕ) → Among n (cond b (p.name ∷ inputs_of ps) (inputs_of ps)) → v n ≡ inputs n)
      → cond b (v p.name ≡ inputs p.name) (Unit {0}) × AllOf (InputHolds v inputs) ps
  by later true h = (h p.name (inl refl), later (λ n a. h n (inr a)))
  by later false h = (tt, later h)

-- at the start, nets that instances drive have their states, and all others the inputs' values
abbrev start : List (List ℕ) → Values → Values → Values
start driven inputs state = λ n. cond (is_among driven n) (state n) (inputs n)

-- A well-formed module has a valuation.
pub module_has_valuation : ModuleHasValuation
module_has_valuation m well inputs state =
    let ins = inputs_of m.ports in
    let driven = instance_driven ins m.entries in
    let given = expression_driven m.entries in
    let first = start driven inputs state in
    let v = run first m.entries in
    let next = next_states v m.entries in
    let free : (n : List ℕ) → Among n ins → Among n (given ++ driven) → ⊥ = λ n a b. none_of n ins (given ++ driven) well.inputs_free a b in
    let new : (n : List ℕ) → Among n given → Among n (ins ++ driven) → ⊥ = λ n a b. either n a (among_parts n ins driven b) in
    let order = in_order ins (port_nets m.ports) (ins ++ driven) m.entries well.entries_fit (differ_front given driven well.drivers_differ) new in
    let kept = keeps first (ins ++ driven) m.entries order in
    let at_inputs : (n : List ℕ) → Among n ins → v n ≡ inputs n
    = λ n a. kept n (among_front n ins driven a) ∙ not_chosen (is_among driven n) (state n) (inputs n) (λ e. free n a (among_back n given driven (among_by_test driven n e))) in
    let at_states : (n : List ℕ) → Among n driven → v n ≡ state n
    = λ n a. kept n (among_back n ins driven a) ∙ ap (λ b. cond b (state n) (inputs n)) (test_of_among driven n a) in (
      v,
      next,
      record {
        inputs_hold = inputs_hold v inputs m.ports at_inputs;
        entries_hold = all_hold ins v state next m.entries (differ_back given driven well.drivers_differ) (record { values = at_states; nexts = λ n a. refl })
            (expressions_hold first (ins ++ driven) m.entries order);
      },
      at_states,
    ) where
      either : (n : List ℕ) → Among n (expression_driven m.entries) → Among n (inputs_of m.ports) ⊎ Among n (instance_driven (inputs_of m.ports) m.entries) → ⊥
      either n a (inl b) = none_of n (inputs_of m.ports) (expression_driven m.entries ++ instance_driven (inputs_of m.ports) m.entries) well.inputs_free b
          (among_front n (expression_driven m.entries) (instance_driven (inputs_of m.ports) m.entries) a)
      either n a (inr b) = differ_across n (expression_driven m.entries) (instance_driven (inputs_of m.ports) m.entries) well.drivers_differ a b

-- So has a register module.
pub has_valuation : RegisterHasValuation
has_valuation m well is inputs state fits = let found = module_has_valuation m well inputs state in (found.0, found.1, found.2)
