-- The cells after a clock are those of every valuation.
use Rattle.std.proofs.Common.{◌≡◌, ℕ, ◌%◌, ◌^◌, ◌<◌, ◌≤◌, ◌⊎◌, inl, inr, Bool, true, false, cond, Option, Some, None, List, [], ◌∷◌, ◌++◌, length, refl, ap, sym, subst, ◌∙◌, codes, arith}
use Rattle.std.specs.Str.{bytes_eq}
use Rattle.cg_svspec.specs.Bits.{Bits, bits}
use Rattle.cg_svspec.specs.Names.{Among, Differ}
use Rattle.cg_svspec.specs.Printable.{AllOf}
use Rattle.cg_svspec.specs.Tree.{Expression, net, lit, Port, Parameter, Connection, Entry, wire, drive, assign, inst}
use Rattle.cg_svspec.specs.Value.{Values, eval, connection_at, parameter_at, flop_name, FlopHolds, AllHold, StateFits, StateFitsIn, OutputFits}
use Rattle.cg_svspec.specs.WellFormed.{Net, stated, Uses, ConnectionsUse, FlopFits, IsOfWidth, EntriesFit, driven_by_connections, instance_driven, expression_driven, outputs_of}
use Rattle.cg_svspec.specs.Register.{IsRegisterEntry}
use Rattle.cg_svspec.proofs.NamesLemmas.{same_name, name_is_itself, among_parts}
use Rattle.cg_svspec.proofs.Widths.{is_flop}
use Rattle.cg_sveval.specs.declared.Cell.{Cell}
use Rattle.cg_sveval.specs.Cells.{HasCells, InOrder, AreCells, IsCellOf, state_nets, output_nets}
use Rattle.cg_sveval.specs.Numbers.{number_of}
use Rattle.cg_sveval.specs.Tables.{cell, cell_value, next_cells, output_cells, with_states, with_state, with_value}
use Rattle.cg_sveval.proofs.Agree.{Agree, eval_agrees, put_agrees}
use Rattle.cg_sveval.proofs.Driven.{driven_is_q}
use Rattle.cg_sveval.proofs.Resets.{bare_net, state_here, narrow, number_fits, number_is}

-- each cell is of the net at its place, and has that net's value
abbrev pub Matches : Values → List Net → List Cell → Type 0
Matches v [] [] = Unit {0}
Matches v [] (c ∷ cs) = ⊥
Matches v (n ∷ ns) [] = ⊥
Matches v (n ∷ ns) (c ∷ cs) = IsCellOf c n × (v n.name ≡ bits n.width c.value) × Matches v ns cs

pub in_order : (v : Values) (ns : List Net) (cs : List Cell) → Matches v ns cs → InOrder ns cs
in_order v [] [] all = tt
in_order v [] (c ∷ cs) all = absurd all
in_order v (n ∷ ns) [] all = absurd all
in_order v (n ∷ ns) (c ∷ cs) all = (all.0, in_order v ns cs all.2)

abbrev pub names_of : List Net → List (List ℕ)
names_of [] = []
names_of (n ∷ ns) = n.name ∷ names_of ns

net_named : (ns : List Net) (n : Net) → Among n ns → Among n.name (names_of ns)
net_named [] n a = absurd a
net_named (k ∷ ns) n (inl e) = inl (ap (λ (z : Net). z.name) e)
net_named (k ∷ ns) n (inr a) = inr (net_named ns n a)

cell_named : (v : Values) (ns : List Net) (cs : List Cell) → Matches v ns cs → (c : Cell) → Among c cs → Among c.name (names_of ns)
cell_named v [] [] all c a = absurd a
cell_named v [] (d ∷ cs) all c a = absurd all
cell_named v (n ∷ ns) [] all c a = absurd all
cell_named v (n ∷ ns) (d ∷ cs) all c (inl e) = inl (ap (λ (z : Cell). z.name) e ∙ all.0.0)
cell_named v (n ∷ ns) (d ∷ cs) all c (inr a) = inr (cell_named v ns cs all.2 c a)

-- where names differ, each net has the value of the cell of its name
pub has_them : (v : Values) (ns : List Net) (cs : List Cell) → Differ (names_of ns) → Matches v ns cs → HasCells v ns cs
has_them v [] [] differ all n c a b same = absurd a
has_them v [] (d ∷ cs) differ all n c a b same = absurd all
has_them v (k ∷ ns) [] differ all n c a b same = absurd all
has_them v (k ∷ ns) (d ∷ cs) differ all n c (inl e) (inl f) same = rw (e, f) all.1
has_them v (k ∷ ns) (d ∷ cs) differ all n c (inl e) (inr b) same =
    absurd (differ.0 (subst (λ z. Among z (names_of ns)) (same ∙ ap (λ (z : Net). z.name) e) (cell_named v ns cs all.2 c b)))
has_them v (k ∷ ns) (d ∷ cs) differ all n c (inr a) (inl f) same =
    absurd (differ.0 (subst (λ z. Among z (names_of ns)) (sym same ∙ ap (λ (z : Cell). z.name) f ∙ all.0.0) (net_named ns n a)))
has_them v (k ∷ ns) (d ∷ cs) differ all n c (inr a) (inr b) same = has_them v ns cs differ.1 all.2 n c a b same

abbrev UsesIn : List (List ℕ) → Option Expression → Type 0
UsesIn known None = Unit {0}
UsesIn known (Some x) = Uses known x

-- a connection uses what all may use
pub connection_uses : (known : List (List ℕ)) (n : List ℕ) (x : Expression) (cs : List Connection) → ConnectionsUse known cs → connection_at n cs ≡ Some x → Uses known x
connection_uses known n x [] uses is = cc
connection_uses known n x (c ∷ cs) uses is = by (connection_uses known n x cs uses.1) (bytes_eq c.name n) is where
  by : (connection_at n cs ≡ Some x → Uses known x) → (b : Bool) → cond b (Some c.value) (connection_at n cs) ≡ Some x → Uses known x
  by later true is = subst (λ z. UsesIn known z) is uses.0
  by later false is = later is

-- the outputs
pub outputs_match : (table v : Values) (ps : List Port) → AllOf (λ p. p.width ≤ 32) ps → AllOf (OutputFits v) ps → Agree table v (outputs_of ps) → Matches v (output_nets ps) (output_cells table ps)
outputs_match table v [] few fit agree = tt
outputs_match table v (p ∷ ps) few fit agree = by (outputs_match table v ps few.1 fit.1) p.input fit.0 agree where
  by : (Agree table v (outputs_of ps) → Matches v (output_nets ps) (output_cells table ps)) → (b : Bool) → cond b (Unit {0}) (length (v p.name) ≡ p.width)
      → Agree table v (cond b (outputs_of ps) (p.name ∷ outputs_of ps))
      → Matches v (cond b (output_nets ps) (stated p.name p.width ∷ output_nets ps)) (cond b (output_cells table ps) (cell p.name (number_of 32 (table p.name)) ∷ output_cells table ps))
  by later true fits agree = later agree
  by later false fits agree =
      let same : table p.name ≡ v p.name = agree p.name (inl refl) in (
        (refl, subst (λ z. number_of 32 z < 2 ^ p.width) (sym same) (number_fits p.width (v p.name) fits few.0)),
        sym (ap (λ z. bits p.width (number_of 32 z)) same ∙ number_is p.width (v p.name) fits few.0),
        later (λ n a. agree n (inr a)),
      )

-- a state's net has the state
state_held : (v state next : Values) (d q : Option Expression) (n : List ℕ) → q ≡ Some (net n) → (w : ℕ) (nets : List Net) → IsOfWidth nets w d → FlopHolds v state next d q → v n ≡ state n
state_held v state next None q n is w nets has held = absurd has
state_held v state next (Some x) q n is w nets has held = let here : FlopHolds v state next (Some x) (Some (net n)) = rw is at held in here.0

next_held : (v state next : Values) (x : Expression) (d q : Option Expression) (n : List ℕ) → d ≡ Some x → q ≡ Some (net n) → FlopHolds v state next d q → next n ≡ eval v x
next_held v state next x d q n is_d is_q held = let here : FlopHolds v state next (Some x) (Some (net n)) = rw (is_d, is_q) at held in here.1

-- what is put in for a state
state_put : (cells : List Cell) (ps : List Parameter) (cs : List Connection) (table : Values) (nets : List Net) (q : List ℕ) → (fits : FlopFits nets ps cs)
    → connection_at (codes "q_o") cs ≡ Some (net q) → fits.width ≤ 32 → with_state cells ps cs table ≡ with_value q (bits fits.width (cell_value cells q)) table
state_put cells ps cs table nets q fits is few =
    let small : fits.width % 2 ^ 32 ≡ fits.width = omega arith in
    rw (is, fits.width_is, small) refl

then_state : (inputs : List (List ℕ)) (m : List ℕ) (nets : List Net) (ps : List Parameter) (cs : List Connection) (es : List Entry) (q : List ℕ) (value : Bits) (table v : Values) (n : List ℕ)
    → bytes_eq m flop_name ≡ true → FlopFits nets ps cs → connection_at (codes "q_o") cs ≡ Some (net q) → value ≡ v q
    → (table n ≡ v n) ⊎ Among n (driven_by_connections inputs m cs ++ instance_driven inputs es) → (with_value q value table n ≡ v n) ⊎ Among n (instance_driven inputs es)
then_state inputs m nets ps cs es q value table v n flop fits is is_v (inl e) = inl (put_agrees q value table v n is_v (inl e))
then_state inputs m nets ps cs es q value table v n flop fits is is_v (inr a) = split (among_parts n (driven_by_connections inputs m cs) (instance_driven inputs es) a) where
  named : Option Expression → List ℕ
  named (Some (net k)) = k
  named _ = []

  split : Among n (driven_by_connections inputs m cs) ⊎ Among n (instance_driven inputs es) → (with_value q value table n ≡ v n) ⊎ Among n (instance_driven inputs es)
  split (inl b) = inl (put_agrees q value table v n is_v (inr (ap named (sym (driven_is_q inputs m n nets ps cs flop fits b) ∙ is))))
  split (inr b) = inr b

-- the first cell of a name that some cell has
record First (cells : List Cell) (name : List ℕ) : Type 0 where
  cell : Cell
  there : Among cell cells
  named : cell.name ≡ name
  value : cell.value ≡ cell_value cells name

first_cell : (cells : List Cell) (name : List ℕ) (c : Cell) → Among c cells → c.name ≡ name → First cells name
first_cell [] name c a is = absurd a
first_cell (d ∷ cs) name c a is = by (λ b. first_cell cs name c b is) (bytes_eq d.name name) refl where
  later : First cs name → bytes_eq d.name name ≡ false → First (d ∷ cs) name
  later f other = record { cell = f.cell; there = inr f.there; named = f.named; value = rw other f.value }

  here : (Among c cs → First cs name) → Among c (d ∷ cs) → bytes_eq d.name name ≡ false → First (d ∷ cs) name
  here below (inl e) other = let same : bytes_eq d.name name ≡ true = rw (ap (λ (z : Cell). z.name) (sym e) ∙ is) (name_is_itself name) in cc
  here below (inr b) other = later (below b) other

  by : (Among c cs → First cs name) → (b : Bool) → bytes_eq d.name name ≡ b → First (d ∷ cs) name
  by below true same = record { cell = d; there = inl refl; named = same_name d.name name same; value = rw same refl }
  by below false other = here below a other

-- the value that the cells give a net
pub given_value : (values : Values) (nets : List Net) (cells : List Cell) → AreCells nets cells → HasCells values nets cells → (n : Net) → Among n nets
    → bits n.width (cell_value cells n.name) ≡ values n.name
given_value values nets cells cells_are has n a =
    let some = cells_are.all n a in
    let first = first_cell cells n.name some.0 some.1 some.2.0 in
    ap (bits n.width) (sym first.value) ∙ sym (has n first.cell a first.there first.named)

-- the states get the values that are given
pub states_agree : (inputs : List (List ℕ)) (cells : List Cell) (v state next : Values) (nets : List Net) (known : List (List ℕ)) (es : List Entry) → EntriesFit inputs nets known es
    → AllOf IsRegisterEntry es → AllHold v state next es → ((n : Net) → Among n (state_nets es) → bits n.width (cell_value cells n.name) ≡ state n.name)
    → (table : Values) (n : List ℕ) → (table n ≡ v n) ⊎ Among n (instance_driven inputs es) → with_states cells table es n ≡ v n
states_agree inputs cells v state next nets known [] fit flops hold given table n (inl e) = e
states_agree inputs cells v state next nets known [] fit flops hold given table n (inr a) = absurd a
states_agree inputs cells v state next nets known (wire w k ∷ es) fit flops hold given table n is =
    states_agree inputs cells v state next (stated k w ∷ nets) known es fit flops.1 hold.1 given table n is
states_agree inputs cells v state next nets known (drive w k x ∷ es) fit flops hold given table n is =
    states_agree inputs cells v state next (stated k w ∷ nets) (k ∷ known) es fit.2 flops.1 hold.1 given table n is
states_agree inputs cells v state next nets known (assign k x ∷ es) fit flops hold given table n is =
    states_agree inputs cells v state next nets (k ∷ known) es fit.2 flops.1 hold.1 given table n is
states_agree inputs cells v state next nets known (inst m ps k cs ∷ es) fit flops hold given table n is =
    let flop = is_flop m nets ps cs flops.0.0 fit.0 in
    let q = bare_net (connection_at (codes "q_o") cs) flop.bare in
    let few = narrow nets ps cs flop flops.0.1 in
    let value = bits flop.width (cell_value cells q.name) in
    let held : FlopHolds v state next (connection_at (codes "d_i") cs) (connection_at (codes "q_o") cs) = rw flops.0.0 at hold.0 in
    let all : (j : Net) → Among j (stated q.name flop.width ∷ state_nets es) → bits j.width (cell_value cells j.name) ≡ state j.name =
    λ j a. given j (subst (λ z. Among j z) (sym (state_here m k nets ps cs es q.name flops.0.0 flop q.is)) a) in
    let is_v : value ≡ v q.name =
    all (stated q.name flop.width) (inl refl) ∙ sym (state_held v state next (connection_at (codes "d_i") cs) (connection_at (codes "q_o") cs) q.name q.is flop.width nets flop.ports.each.1.1.0 held) in
    let put : with_state cells ps cs table ≡ with_value q.name value table = state_put cells ps cs table nets q.name flop q.is few in
    ap (λ z. with_states cells z es n) put
    ∙ states_agree inputs cells v state next nets known es fit.2 flops.1 hold.1 (λ j a. all j (inr a)) (with_value q.name value table) n
    (then_state inputs m nets ps cs es q.name value table v n flops.0.0 flop q.is is_v is)

-- a connection that has a width is there
record There (x : Option Expression) : Type 0 where
  value : Expression
  is : x ≡ Some value

is_there : (nets : List Net) (w : ℕ) (x : Option Expression) → IsOfWidth nets w x → There x
is_there nets w None has = absurd has
is_there nets w (Some x) has = record { value = x; is = refl }

next_here : (table : Values) (m k : List ℕ) (ps : List Parameter) (cs : List Connection) (es : List Entry) (q : List ℕ) (x : Expression) → connection_at (codes "q_o") cs ≡ Some (net q)
    → connection_at (codes "d_i") cs ≡ Some x → next_cells table (inst m ps k cs ∷ es) ≡ cell q (number_of 32 (eval table x)) ∷ next_cells table es
next_here table m k ps cs es q x is_q is_d = rw (is_q, is_d) refl

matches_by : (v : Values) (ns ms : List Net) (cs ds : List Cell) → ns ≡ ms → cs ≡ ds → Matches v ms ds → Matches v ns cs
matches_by v ns ms cs ds e f all = subst (λ z. Matches v z cs) (sym e) (subst (λ z. Matches v ms z) (sym f) all)

fits_width : (next : Values) (width : ℕ) (w q : Option Expression) (n : List ℕ) → w ≡ Some (lit 0 width) → q ≡ Some (net n) → StateFits next w q → length (next n) ≡ width
fits_width next width w q n is_w is_q fits = rw (is_w, is_q) at fits

and_this : (table v : Values) (k : List ℕ) (known : List (List ℕ)) → Agree table v known → table k ≡ v k → Agree table v (k ∷ known)
and_this table v k known agree is n (inl e) = ap table e ∙ is ∙ ap v (sym e)
and_this table v k known agree is n (inr a) = agree n a

-- the states after the clock
pub nexts_match : (inputs : List (List ℕ)) (table v state next : Values) (nets : List Net) (known : List (List ℕ)) (es : List Entry) → EntriesFit inputs nets known es
    → AllOf IsRegisterEntry es → AllHold v state next es → AllOf (StateFitsIn next) es → Agree table v known → Agree table v (expression_driven es) → Matches next (state_nets es) (next_cells table es)
nexts_match inputs table v state next nets known [] fit flops hold fits agree driven = tt
nexts_match inputs table v state next nets known (wire w k ∷ es) fit flops hold fits agree driven =
    nexts_match inputs table v state next (stated k w ∷ nets) known es fit flops.1 hold.1 fits.1 agree driven
nexts_match inputs table v state next nets known (drive w k x ∷ es) fit flops hold fits agree driven =
    nexts_match inputs table v state next (stated k w ∷ nets) (k ∷ known) es fit.2 flops.1 hold.1 fits.1 (and_this table v k known agree (driven k (inl refl))) (λ n a. driven n (inr a))
nexts_match inputs table v state next nets known (assign k x ∷ es) fit flops hold fits agree driven =
    nexts_match inputs table v state next nets (k ∷ known) es fit.2 flops.1 hold.1 fits.1 (and_this table v k known agree (driven k (inl refl))) (λ n a. driven n (inr a))
nexts_match inputs table v state next nets known (inst m ps k cs ∷ es) fit flops hold fits agree driven =
    let flop = is_flop m nets ps cs flops.0.0 fit.0 in
    let q = bare_net (connection_at (codes "q_o") cs) flop.bare in
    let d = is_there nets flop.width (connection_at (codes "d_i") cs) flop.ports.each.1.1.0 in
    let few = narrow nets ps cs flop flops.0.1 in
    let held : FlopHolds v state next (connection_at (codes "d_i") cs) (connection_at (codes "q_o") cs) = rw flops.0.0 at hold.0 in
    let fitting : StateFits next (parameter_at (codes "Width") ps) (connection_at (codes "q_o") cs) = rw flops.0.0 at fits.0 in
    let same : eval table d.value ≡ next q.name =
    eval_agrees table v known agree d.value (connection_uses known (codes "d_i") d.value cs fit.1 d.is)
    ∙ sym (next_held v state next d.value (connection_at (codes "d_i") cs) (connection_at (codes "q_o") cs) q.name d.is q.is held) in
    let wide : length (next q.name) ≡ flop.width = fits_width next flop.width (parameter_at (codes "Width") ps) (connection_at (codes "q_o") cs) q.name flop.width_is q.is fitting in
    matches_by next (state_nets (inst m ps k cs ∷ es)) (stated q.name flop.width ∷ state_nets es) (next_cells table (inst m ps k cs ∷ es))
    (cell q.name (number_of 32 (eval table d.value)) ∷ next_cells table es) (state_here m k nets ps cs es q.name flops.0.0 flop q.is) (next_here table m k ps cs es q.name d.value q.is d.is) (
      (refl, subst (λ z. number_of 32 z < 2 ^ flop.width) (sym same) (number_fits flop.width (next q.name) wide few)),
      sym (ap (λ z. bits flop.width (number_of 32 z)) same ∙ number_is flop.width (next q.name) wide few),
      nexts_match inputs table v state next nets known es fit.2 flops.1 hold.1 fits.1 agree driven,
    )
