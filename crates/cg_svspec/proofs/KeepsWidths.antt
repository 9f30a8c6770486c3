-- A well-formed register module has states at reset; they have their widths, and so have its outputs, and the states after each clock.
use Rattle.std.proofs.Common.{◌≡◌, ℕ, suc, Bool, true, false, cond, ◌⊎◌, inl, inr, Option, Some, None, List, [], ◌∷◌, ◌++◌, length, refl, ap, sym, subst, ◌∙◌, codes}
use Rattle.std.specs.Str.{bytes_eq}
use Rattle.cg_svspec.specs.Bits.{Bits, bits}
use Rattle.cg_svspec.specs.Tree.{Expression, net, lit, Port, Parameter, Connection, Entry, wire, drive, assign, inst, Module}
use Rattle.cg_svspec.specs.Names.{Among, Differ, port_names, entry_names}
use Rattle.cg_svspec.specs.Printable.{AllOf}
use Rattle.cg_svspec.specs.Value.{Values, connection_at, parameter_at, flop_name, FlopHolds, AllHold, InputHolds, InputFits, OutputFits, StateFits, StateFitsIn, HasWidths, Valuation, ResetHolds, IsResetIn}
use Rattle.cg_svspec.specs.WellFormed.{Net, stated, Declares, IsOfWidth, IsBareNet, FlopFits, EntriesFit, connection_names, ends_with, is_output, driven_nets, driven_by_connections, instance_driven, expression_driven, inputs_of, outputs_of, port_nets, AllAmong, WellFormed}
use Rattle.cg_svspec.specs.Register.{IsRegisterEntry, IsRegister, RegisterKeepsWidths}
use Rattle.cg_svspec.proofs.BitLists.{length-bits}
use Rattle.cg_svspec.proofs.Covered.{covered}
use Rattle.cg_svspec.proofs.Exists.{q_is_driven}
use Rattle.cg_svspec.proofs.NamesLemmas.{name_is_itself, same_name, not_chosen, among_front, among_back, among_parts, differ_front, differ_back, differ_across}
use Rattle.cg_svspec.proofs.Widths.{net_names, OneWidth, one_width, nets_after, declared_after, differ_behind, Wide, is_flop, nexts_fit, driven_wide}

-- ---- states at reset have their widths

-- of a flip-flop
reset_wide : (state : Values) (width reset : ℕ) (q : Option Expression) → IsBareNet q → ResetHolds state (Some (lit width reset)) q → StateFits state (Some (lit 0 width)) q
reset_wide state width reset (Some (net n)) bare holds = ap length holds ∙ length-bits width reset
reset_wide state width reset q bare holds = absurd bare

flop_reset_fits : (state : Values) (nets : List Net) (ps : List Parameter) (cs : List Connection) → FlopFits nets ps cs
    → ResetHolds state (parameter_at (codes "ResetValue") ps) (connection_at (codes "q_o") cs) → StateFits state (parameter_at (codes "Width") ps) (connection_at (codes "q_o") cs)
flop_reset_fits state nets ps cs fits holds =
    rw fits.width_is (reset_wide state fits.width fits.reset (connection_at (codes "q_o") cs) fits.bare (rw fits.reset_is at holds))

-- of all entries
resets_fit : (inputs : List (List ℕ)) (state : Values) (nets : List Net) (known : List (List ℕ)) (es : List Entry) → EntriesFit inputs nets known es → AllOf IsRegisterEntry es
    → AllOf (IsResetIn state) es → AllOf (StateFitsIn state) es
resets_fit inputs state nets known [] fit flops reset = tt
resets_fit inputs state nets known (wire w n ∷ es) fit flops reset = (tt, resets_fit inputs state (stated n w ∷ nets) known es fit flops.1 reset.1)
resets_fit inputs state nets known (drive w n x ∷ es) fit flops reset = (tt, resets_fit inputs state (stated n w ∷ nets) (n ∷ known) es fit.2 flops.1 reset.1)
resets_fit inputs state nets known (assign n x ∷ es) fit flops reset = (tt, resets_fit inputs state nets (n ∷ known) es fit.2 flops.1 reset.1)
resets_fit inputs state nets known (inst m ps n cs ∷ es) fit flops reset =
    let held : ResetHolds state (parameter_at (codes "ResetValue") ps) (connection_at (codes "q_o") cs) = rw flops.0.0 at reset.0 in
    (rw flops.0.0 (flop_reset_fits state nets ps cs (is_flop m nets ps cs flops.0.0 fit.0) held), resets_fit inputs state nets known es fit.2 flops.1 reset.1)

-- ---- there are states at reset

-- the value of the state of this name at reset, where it is this flip-flop's
abbrev reset_by : Option Expression → Option Expression → List ℕ → Bits → Bits
reset_by (Some (lit w k)) (Some (net q)) n later = cond (bytes_eq n q) (bits w k) later
reset_by _ _ n later = later

-- the states, by the first instance that has the name at `q_o`
abbrev reset_states : List Entry → Values
reset_states [] n = []
reset_states (wire w k ∷ es) n = reset_states es n
reset_states (drive w k x ∷ es) n = reset_states es n
reset_states (assign k x ∷ es) n = reset_states es n
reset_states (inst m ps k cs ∷ es) n = reset_by (parameter_at (codes "ResetValue") ps) (connection_at (codes "q_o") cs) n (reset_states es n)

-- a flip-flop whose net is among those that have these states is at reset
flop_is_reset : (state : Values) (r q : Option Expression) (later : Values) (driven : List (List ℕ)) → ((n : List ℕ) → q ≡ Some (net n) → Among n driven)
    → ((n : List ℕ) → Among n driven → state n ≡ reset_by r q n (later n)) → ResetHolds state r q
flop_is_reset state (Some (lit w k)) (Some (net q)) later driven is values = values q (is q refl) ∙ rw (name_is_itself q) refl
flop_is_reset state r q later driven is values = tt

-- a net that another instance drives has its state from below
reset_from_below : (r q : Option Expression) (n : List ℕ) (later : Bits) → ((m : List ℕ) → q ≡ Some (net m) → n ≡ m → ⊥) → reset_by r q n later ≡ later
reset_from_below (Some (lit w k)) (Some (net q)) n later other = not_chosen (bytes_eq n q) (bits w k) later (λ e. other q refl (same_name n q e))
reset_from_below r q n later other = refl

-- all entries are at reset in these states
all_reset : (inputs : List (List ℕ)) (state : Values) (es : List Entry) → AllOf IsRegisterEntry es → Differ (instance_driven inputs es)
    → ((n : List ℕ) → Among n (instance_driven inputs es) → state n ≡ reset_states es n) → AllOf (IsResetIn state) es
all_reset inputs state [] flops d values = tt
all_reset inputs state (wire w n ∷ es) flops d values = (tt, all_reset inputs state es flops.1 d values)
all_reset inputs state (drive w n x ∷ es) flops d values = (tt, all_reset inputs state es flops.1 d values)
all_reset inputs state (assign n x ∷ es) flops d values = (tt, all_reset inputs state es flops.1 d values)
all_reset inputs state (inst m ps k cs ∷ es) flops d values =
    let r = parameter_at (codes "ResetValue") ps in
    let q = connection_at (codes "q_o") cs in
    let here = driven_by_connections inputs m cs in
    let below = instance_driven inputs es in (
      rw flops.0.0 (flop_is_reset state r q (reset_states es) here (λ n is. q_is_driven inputs m cs n flops.0.0 is) (λ n a. values n (among_front n here below a))),
      all_reset inputs state es flops.1 (differ_back here below d) (λ n a. values n (among_back n here below a)
          ∙ reset_from_below r q n (reset_states es n) (λ p is e. differ_across n here below d (subst (λ z. Among z here) (sym e) (q_is_driven inputs m cs p flops.0.0 is)) a)),
    )

-- ---- the nets that instances drive have their widths

-- a connection's name is among the names
named : (cs : List Connection) (c : Connection) → Among c cs → Among c.name (connection_names cs)
named [] c a = absurd a
named (x ∷ cs) c (inl e) = inl (ap (λ (z : Connection). z.name) e)
named (x ∷ cs) c (inr a) = inr (named cs c a)

-- the connection of a name, where names differ
at_its_name : (cs : List Connection) (c : Connection) → Differ (connection_names cs) → Among c cs → connection_at c.name cs ≡ Some c.value
at_its_name [] c differ a = absurd a
at_its_name (x ∷ cs) c differ (inl e) = rw (e, name_is_itself x.name) refl
at_its_name (x ∷ cs) c differ (inr a) =
    not_chosen (bytes_eq x.name c.name) (Some x.value) (connection_at c.name cs) (λ e. differ.0 (rw (same_name x.name c.name e) (named cs c a))) ∙ at_its_name cs c differ.1 a

-- a connection there is has its name
is_named : (nets : List Net) (width : ℕ) (n : List ℕ) (cs : List Connection) → IsOfWidth nets width (connection_at n cs) → Among n (connection_names cs)
is_named nets width n [] has = absurd has
is_named nets width n (c ∷ cs) has = by (is_named nets width n cs) (bytes_eq c.name n) refl has where
  by : (IsOfWidth nets width (connection_at n cs) → Among n (connection_names cs)) → (b : Bool) → bytes_eq c.name n ≡ b → IsOfWidth nets width (cond b (Some c.value) (connection_at n cs))
      → Among n (c.name ∷ connection_names cs)
  by later true is has = inl (sym (same_name c.name n is))
  by later false is has = inr (later has)

-- the names of a flip-flop's connections
abbrev flop_names : List (List ℕ)
flop_names = codes "clk_i" ∷ codes "rst_ni" ∷ codes "d_i" ∷ codes "q_o" ∷ []

-- names that the test takes for two are two
apart : (m n : List ℕ) → bytes_eq m n ≡ false → m ≡ n → ⊥
apart m n other e = let same : bytes_eq m n ≡ true = rw e (name_is_itself n) in cc

flop_names_differ : Differ flop_names
flop_names_differ = (clk, (rst, (d, ((λ a. a), tt)))) where
  clk : Among (codes "clk_i") (codes "rst_ni" ∷ codes "d_i" ∷ codes "q_o" ∷ []) → ⊥
  clk (inl e) = apart (codes "clk_i") (codes "rst_ni") refl e
  clk (inr (inl e)) = apart (codes "clk_i") (codes "d_i") refl e
  clk (inr (inr (inl e))) = apart (codes "clk_i") (codes "q_o") refl e
  clk (inr (inr (inr a))) = a

  rst : Among (codes "rst_ni") (codes "d_i" ∷ codes "q_o" ∷ []) → ⊥
  rst (inl e) = apart (codes "rst_ni") (codes "d_i") refl e
  rst (inr (inl e)) = apart (codes "rst_ni") (codes "q_o") refl e
  rst (inr (inr a)) = a

  d : Among (codes "d_i") (codes "q_o" ∷ []) → ⊥
  d (inl e) = apart (codes "d_i") (codes "q_o") refl e
  d (inr a) = a

-- there is a name for each connection
length-names : (cs : List Connection) → length (connection_names cs) ≡ length cs
length-names [] = refl
length-names (c ∷ cs) = ap suc (length-names cs)

-- a flip-flop has no connection of another name
only_these : (nets : List Net) (ps : List Parameter) (cs : List Connection) → FlopFits nets ps cs → (n : List ℕ) → Among n (connection_names cs) → Among n flop_names
only_these nets ps cs fits n a = covered (connection_names cs) flop_names flop_names_differ (length-names cs ∙ fits.ports.count) all n a where
  all : (y : List ℕ) → Among y flop_names → Among y (connection_names cs)
  all y (inl e) = rw e (is_named nets 1 (codes "clk_i") cs fits.ports.each.0)
  all y (inr (inl e)) = rw e (is_named nets 1 (codes "rst_ni") cs fits.ports.each.1.0)
  all y (inr (inr (inl e))) = rw e (is_named nets fits.width (codes "d_i") cs fits.ports.each.1.1.0)
  all y (inr (inr (inr (inl e)))) = rw e (is_named nets fits.width (codes "q_o") cs fits.ports.each.1.1.1.0)
  all y (inr (inr (inr (inr a)))) = absurd a

-- the one that ends as an output is `q_o`
output_is_q : (n : List ℕ) → Among n flop_names → ends_with n (codes "_o") ≡ true → n ≡ codes "q_o"
output_is_q n (inl e) out = let no : ends_with (codes "clk_i") (codes "_o") ≡ true = rw e at out in cc
output_is_q n (inr (inl e)) out = let no : ends_with (codes "rst_ni") (codes "_o") ≡ true = rw e at out in cc
output_is_q n (inr (inr (inl e))) out = let no : ends_with (codes "d_i") (codes "_o") ≡ true = rw e at out in cc
output_is_q n (inr (inr (inr (inl e)))) out = e
output_is_q n (inr (inr (inr (inr a)))) out = absurd a

-- the connection that drives a net
record Drives (inputs : List (List ℕ)) (m n : List ℕ) (cs : List Connection) : Type 0 where
  by : Connection
  there : Among by cs
  out : is_output inputs m by ≡ true
  nets : Among n (driven_nets by.value)

drives : (inputs : List (List ℕ)) (m n : List ℕ) (cs : List Connection) → Among n (driven_by_connections inputs m cs) → Drives inputs m n cs
drives inputs m n [] a = absurd a
drives inputs m n (c ∷ cs) a = of (drives inputs m n cs) (is_output inputs m c) refl a where
  further : Drives inputs m n cs → Drives inputs m n (c ∷ cs)
  further d = record { by = d.by; there = inr d.there; out = d.out; nets = d.nets }

  of : (Among n (driven_by_connections inputs m cs) → Drives inputs m n cs) → (b : Bool) → is_output inputs m c ≡ b
      → Among n (cond b (driven_nets c.value) [] ++ driven_by_connections inputs m cs) → Drives inputs m n (c ∷ cs)
  of later false is a = further (later a)
  of later true is a = split (among_parts n (driven_nets c.value) (driven_by_connections inputs m cs) a) where
    split : Among n (driven_nets c.value) ⊎ Among n (driven_by_connections inputs m cs) → Drives inputs m n (c ∷ cs)
    split (inl b) = record { by = c; there = inl refl; out = is; nets = b }
    split (inr b) = further (later b)

-- a bare net drives itself
drives_itself : (x : Expression) (n : List ℕ) → IsBareNet (Some x) → Among n (driven_nets x) → x ≡ net n
drives_itself (net q) n bare (inl e) = ap net (sym e)
drives_itself (net q) n bare (inr a) = absurd a
drives_itself x n bare a = absurd bare

-- what a flip-flop drives is at its `q_o`
driven_is_q : (inputs : List (List ℕ)) (m n : List ℕ) (nets : List Net) (ps : List Parameter) (cs : List Connection) → bytes_eq m flop_name ≡ true → FlopFits nets ps cs
    → Among n (driven_by_connections inputs m cs) → connection_at (codes "q_o") cs ≡ Some (net n)
driven_is_q inputs m n nets ps cs flop fits a =
    let d = drives inputs m n cs a in
    let out : ends_with d.by.name (codes "_o") ≡ true = rw flop at d.out in
    let name : d.by.name ≡ codes "q_o" = output_is_q d.by.name (only_these nets ps cs fits d.by.name (named cs d.by d.there)) out in
    let here : connection_at (codes "q_o") cs ≡ Some d.by.value = rw name at (at_its_name cs d.by fits.ports.once d.there) in
    let bare : IsBareNet (Some d.by.value) = rw here at fits.bare in
    here ∙ ap Some (drives_itself d.by.value n bare d.nets)

-- a net that is declared with the width that it has
record Has (v : Values) (nets : List Net) (n : List ℕ) : Type 0 where
  width : ℕ
  declared : Declares nets n width
  wide : length (v n) ≡ width

-- the net at `q_o` of a flip-flop
q_has : (v state next : Values) (nets : List Net) (width : ℕ) (d q : Option Expression) (n : List ℕ) → q ≡ Some (net n) → IsOfWidth nets width d → IsOfWidth nets width q
    → StateFits state (Some (lit 0 width)) q → FlopHolds v state next d q → Has v nets n
q_has v state next nets width None q n is has_d has_q fits holds = absurd has_d
q_has v state next nets width (Some x) q n is has_d has_q fits holds =
    let declared : Declares nets n width = rw is at has_q in
    let wide : length (state n) ≡ width = rw is at fits in
    let held : FlopHolds v state next (Some x) (Some (net n)) = rw is at holds in
    record { width = width; declared = declared; wide = ap length held.0 ∙ wide }

-- each net that an instance drives
driven_has : (inputs : List (List ℕ)) (v state next : Values) (nets : List Net) (known : List (List ℕ)) (es : List Entry) → EntriesFit inputs nets known es → AllOf IsRegisterEntry es
    → AllHold v state next es → AllOf (StateFitsIn state) es → (n : List ℕ) → Among n (instance_driven inputs es) → Has v (nets_after nets es) n
driven_has inputs v state next nets known [] fit flops holds fits n a = absurd a
driven_has inputs v state next nets known (wire w k ∷ es) fit flops holds fits n a = driven_has inputs v state next (stated k w ∷ nets) known es fit flops.1 holds.1 fits.1 n a
driven_has inputs v state next nets known (drive w k x ∷ es) fit flops holds fits n a = driven_has inputs v state next (stated k w ∷ nets) (k ∷ known) es fit.2 flops.1 holds.1 fits.1 n a
driven_has inputs v state next nets known (assign k x ∷ es) fit flops holds fits n a = driven_has inputs v state next nets (k ∷ known) es fit.2 flops.1 holds.1 fits.1 n a
driven_has inputs v state next nets known (inst m ps k cs ∷ es) fit flops holds fits n a =
    split (driven_has inputs v state next nets known es fit.2 flops.1 holds.1 fits.1 n) (among_parts n (driven_by_connections inputs m cs) (instance_driven inputs es) a) where
      here : Among n (driven_by_connections inputs m cs) → Has v nets n
      here b =
          let flop : FlopFits nets ps cs = is_flop m nets ps cs flops.0.0 fit.0 in
          let held : FlopHolds v state next (connection_at (codes "d_i") cs) (connection_at (codes "q_o") cs) = rw flops.0.0 at holds.0 in
          let wide : StateFits state (parameter_at (codes "Width") ps) (connection_at (codes "q_o") cs) = rw flops.0.0 at fits.0 in
          q_has v state next nets flop.width (connection_at (codes "d_i") cs) (connection_at (codes "q_o") cs) n (driven_is_q inputs m n nets ps cs flops.0.0 flop b)
          flop.ports.each.1.1.0 flop.ports.each.1.1.1.0 (rw flop.width_is at wide) held

      split : (Among n (instance_driven inputs es) → Has v (nets_after nets es) n) → Among n (driven_by_connections inputs m cs) ⊎ Among n (instance_driven inputs es) → Has v (nets_after nets es) n
      split later (inl b) = let has = here b in record { width = has.width; declared = declared_after nets es n has.width has.declared; wide = has.wide }
      split later (inr b) = later b

-- ---- so do inputs

-- each input of some ports
input_has : (v inputs : Values) (ps : List Port) → AllOf (InputHolds v inputs) ps → AllOf (InputFits inputs) ps → (n : List ℕ) → Among n (inputs_of ps) → Has v (port_nets ps) n
input_has v inputs [] hold fit n a = absurd a
input_has v inputs (p ∷ ps) hold fit n a = by (input_has v inputs ps hold.1 fit.1 n) p.input hold.0 fit.0 a where
  further : Has v (port_nets ps) n → Has v (port_nets (p ∷ ps)) n
  further has = record { width = has.width; declared = inr has.declared; wide = has.wide }

  by : (Among n (inputs_of ps) → Has v (port_nets ps) n) → (b : Bool) → cond b (v p.name ≡ inputs p.name) (Unit {0}) → cond b (length (inputs p.name) ≡ p.width) (Unit {0})
      → Among n (cond b (p.name ∷ inputs_of ps) (inputs_of ps)) → Has v (port_nets (p ∷ ps)) n
  by later true held fits (inl e) = record { width = p.width; declared = inl (sym e, refl); wide = ap (λ z. length (v z)) e ∙ ap length held ∙ fits }
  by later true held fits (inr b) = further (later b)
  by later false held fits b = further (later b)

-- ---- the whole

-- ports' nets are named as the ports
port_names_are : (ps : List Port) → net_names (port_nets ps) ≡ port_names ps
port_names_are [] = refl
port_names_are (p ∷ ps) = ap (λ z. p.name ∷ z) (port_names_are ps)

-- a well-formed module's nets have one width each
module_one_width : (m : Module) → WellFormed m → OneWidth (nets_after (port_nets m.ports) m.entries)
module_one_width m well =
    one_width (nets_after (port_nets m.ports) m.entries)
    (differ_behind (port_nets m.ports) m.entries (subst Differ (sym (port_names_are m.ports)) (differ_front (port_names m.ports) (entry_names m.entries) well.names_differ))
    (differ_back (port_names m.ports) (entry_names m.entries) well.names_differ)
    (λ n a b. differ_across n (port_names m.ports) (entry_names m.entries) well.names_differ (subst (λ z. Among n z) (port_names_are m.ports) b) a))

-- what its first entries may use has its width
known_wide : (m : Module) (v : Values) (one : OneWidth (nets_after (port_nets m.ports) m.entries)) (ins driven : List (List ℕ))
    → ((n : List ℕ) → Among n ins → Has v (port_nets m.ports) n) → ((n : List ℕ) → Among n driven → Has v (nets_after (port_nets m.ports) m.entries) n)
    → Wide v (nets_after (port_nets m.ports) m.entries) (ins ++ driven)
known_wide m v one ins driven of_inputs of_driven n w a d = split (among_parts n ins driven a) where
  split : Among n ins ⊎ Among n driven → length (v n) ≡ w
  split (inl b) = let has = of_inputs n b in has.wide ∙ one n has.width w (declared_after (port_nets m.ports) m.entries n has.width has.declared) d
  split (inr b) = let has = of_driven n b in has.wide ∙ one n has.width w has.declared d

-- in a valuation
wide_at_start : (m : Module) → WellFormed m → IsRegister m → (inputs state v next : Values) → HasWidths m inputs state → Valuation m inputs state v next
    → Wide v (nets_after (port_nets m.ports) m.entries) (inputs_of m.ports ++ instance_driven (inputs_of m.ports) m.entries)
wide_at_start m well is inputs state v next widths valuation =
    let ins = inputs_of m.ports in
    let driven = instance_driven ins m.entries in
    known_wide m v (module_one_width m well) ins driven (input_has v inputs m.ports valuation.inputs_hold widths.inputs_fit)
    (driven_has ins v state next (port_nets m.ports) (ins ++ driven) m.entries well.entries_fit is.entries valuation.entries_hold widths.states_fit)

-- outputs have their widths where each of the names has
each_output : (v : Values) (ps : List Port) → ((n : List ℕ) (w : ℕ) → Among n (outputs_of ps) → Declares (port_nets ps) n w → length (v n) ≡ w) → AllOf (OutputFits v) ps
each_output v [] wide = tt
each_output v (p ∷ ps) wide = by (each_output v ps) p.input wide where
  by : (((n : List ℕ) (w : ℕ) → Among n (outputs_of ps) → Declares (port_nets ps) n w → length (v n) ≡ w) → AllOf (OutputFits v) ps) → (b : Bool)
      → ((n : List ℕ) (w : ℕ) → Among n (cond b (outputs_of ps) (p.name ∷ outputs_of ps)) → Declares (port_nets (p ∷ ps)) n w → length (v n) ≡ w)
      → cond b (Unit {0}) (length (v p.name) ≡ p.width) × AllOf (OutputFits v) ps
  by later true wide = (tt, later (λ n w a d. wide n w a (inr d)))
  by later false wide = (wide p.name p.width (inl refl) (inl (refl, refl)), later (λ n w a d. wide n w (inr a) (inr d)))

-- one of names that are all among others
of_them : (ns known : List (List ℕ)) → AllAmong ns known → (n : List ℕ) → Among n ns → Among n known
of_them [] known all n a = absurd a
of_them (m ∷ ns) known all n (inl e) = subst (λ z. Among z known) (sym e) all.0
of_them (m ∷ ns) known all n (inr a) = of_them ns known all.1 n a

-- nets with an expression, and those that instances drive
drivers_wide : (v : Values) (all : List Net) (given ins driven : List (List ℕ)) → Wide v all given → Wide v all (ins ++ driven) → Wide v all (given ++ driven)
drivers_wide v all given ins driven expressions known n w a d = split (among_parts n given driven a) where
  split : Among n given ⊎ Among n driven → length (v n) ≡ w
  split (inl b) = expressions n w b d
  split (inr b) = known n w (among_back n ins driven b) d

-- A well-formed register module's states have their widths from reset on, and so have its outputs.
pub keeps_widths : RegisterKeepsWidths
keeps_widths m well is =
    let ins = inputs_of m.ports in
    let driven = instance_driven ins m.entries in
    let one = module_one_width m well in
    record {
      reset_exists = (reset_states m.entries, all_reset ins (reset_states m.entries) m.entries is.entries (differ_back (expression_driven m.entries) driven well.drivers_differ) (λ n a. refl));
      reset_fits = λ state reset. resets_fit ins state (port_nets m.ports) (ins ++ driven) m.entries well.entries_fit is.entries reset;
      outputs_fit = λ inputs state v next widths valuation.
          let known = wide_at_start m well is inputs state v next widths valuation in
          let all = nets_after (port_nets m.ports) m.entries in
          let wide = drivers_wide v all (expression_driven m.entries) ins driven
          (driven_wide ins v state next all (port_nets m.ports) (ins ++ driven) m.entries one (λ n w d. d) known well.entries_fit valuation.entries_hold) known in
          each_output v m.ports
          (λ n w a d. wide n w (of_them (outputs_of m.ports) (expression_driven m.entries ++ driven) well.outputs_driven n a) (declared_after (port_nets m.ports) m.entries n w d));
      next_fits = λ inputs state v next widths valuation.
          nexts_fit ins v state next (nets_after (port_nets m.ports) m.entries) (port_nets m.ports) (ins ++ driven) m.entries one (λ n w d. d)
          (wide_at_start m well is inputs state v next widths valuation) well.entries_fit is.entries valuation.entries_hold;
    }
