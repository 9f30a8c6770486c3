-- Each net of a well-formed register module has its declared width, where inputs and states have theirs.
use Rattle.std.proofs.Common.{◌≡◌, ℕ, suc, ◌+◌, ◌-◌, ◌<◌, ◌≤◌, Bool, true, false, cond, not, ◌&&◌, ◌||◌, inl, inr, Option, Some, None, List, [], ◌∷◌, ◌++◌, take, drop, length, refl, ap, sym, subst, ◌∙◌, arith, codes, length-append, length-drop}
use Rattle.std.proofs.lemmas.List.{length-take-le, length-map}
use Rattle.std.specs.Str.{bytes_eq}
use Rattle.cg_svspec.specs.Bits.{Bits, zipped, chosen}
use Rattle.cg_svspec.specs.Tree.{Expression, net, cut, lit, cat, inv, any, and, or, equal, pick, Expressions, none, more, Parameter, Connection, Entry, wire, drive, assign, inst}
use Rattle.cg_svspec.specs.Names.{Among, Differ, entry_names}
use Rattle.cg_svspec.specs.Printable.{AllOf}
use Rattle.cg_svspec.specs.Value.{Values, eval, eval_parts, connection_at, parameter_at, flop_name, FlopHolds, AllHold, StateFits, StateFitsIn}
use Rattle.cg_svspec.specs.WellFormed.{Net, stated, Declares, HasWidth, PartsHaveWidth, Uses, UsesAll, IsOfWidth, IsBareNet, FlopFits, PartFits, ConnectionsUse, EntriesFit, expression_driven}
use Rattle.cg_svspec.specs.Register.{IsRegisterEntry}
use Rattle.cg_svspec.proofs.BitLists.{length-bits}

-- ---- a declared net has one width

abbrev pub net_names : List Net → List (List ℕ)
net_names [] = []
net_names (x ∷ xs) = x.name ∷ net_names xs

-- what is declared is named
pub declared_is_named : (nets : List Net) (n : List ℕ) (w : ℕ) → Declares nets n w → Among n (net_names nets)
declared_is_named [] n w d = absurd d
declared_is_named (x ∷ xs) n w (inl e) = inl (sym e.0)
declared_is_named (x ∷ xs) n w (inr d) = inr (declared_is_named xs n w d)

abbrev pub OneWidth : List Net → Type 0
OneWidth nets = (n : List ℕ) (u w : ℕ) → Declares nets n u → Declares nets n w → u ≡ w

-- where names differ
pub one_width : (nets : List Net) → Differ (net_names nets) → OneWidth nets
one_width [] differ n u w a b = absurd a
one_width (x ∷ xs) differ n u w (inl a) (inl b) = sym a.1 ∙ b.1
one_width (x ∷ xs) differ n u w (inl a) (inr b) = absurd (differ.0 (subst (λ m. Among m (net_names xs)) (sym a.0) (declared_is_named xs n w b)))
one_width (x ∷ xs) differ n u w (inr a) (inl b) = absurd (differ.0 (subst (λ m. Among m (net_names xs)) (sym b.0) (declared_is_named xs n u a)))
one_width (x ∷ xs) differ n u w (inr a) (inr b) = one_width xs differ.1 n u w a b

-- the nets that are declared behind these entries
abbrev pub nets_after : List Net → List Entry → List Net
nets_after nets [] = nets
nets_after nets (wire w n ∷ es) = nets_after (stated n w ∷ nets) es
nets_after nets (drive w n x ∷ es) = nets_after (stated n w ∷ nets) es
nets_after nets (assign n x ∷ es) = nets_after nets es
nets_after nets (inst m ps n cs ∷ es) = nets_after nets es

-- those above are among them
pub declared_after : (nets : List Net) (es : List Entry) (n : List ℕ) (w : ℕ) → Declares nets n w → Declares (nets_after nets es) n w
declared_after nets [] n w d = d
declared_after nets (wire u k ∷ es) n w d = declared_after (stated k u ∷ nets) es n w (inr d)
declared_after nets (drive u k x ∷ es) n w d = declared_after (stated k u ∷ nets) es n w (inr d)
declared_after nets (assign k x ∷ es) n w d = declared_after nets es n w d
declared_after nets (inst m ps k cs ∷ es) n w d = declared_after nets es n w d

-- names that are new stay so behind a name that differs from them
abbrev New : List (List ℕ) → List (List ℕ) → Type 0
New names known = (n : List ℕ) → Among n names → Among n known → ⊥

new_behind : (n : List ℕ) (names known : List (List ℕ)) → (Among n names → ⊥) → New (n ∷ names) known → New names (n ∷ known)
new_behind n names known alone new m a (inl e) = alone (subst (λ z. Among z names) e a)
new_behind n names known alone new m a (inr b) = new m (inr a) b

-- the names of all declared nets differ, where those of entries do
pub differ_behind : (nets : List Net) (es : List Entry) → Differ (net_names nets) → Differ (entry_names es) → New (entry_names es) (net_names nets) → Differ (net_names (nets_after nets es))
differ_behind nets [] d e new = d
differ_behind nets (wire w n ∷ es) d e new =
    differ_behind (stated n w ∷ nets) es (λ a. new n (inl refl) a, d) e.1 (new_behind n (entry_names es) (net_names nets) e.0 new)
differ_behind nets (drive w n x ∷ es) d e new =
    differ_behind (stated n w ∷ nets) es (λ a. new n (inl refl) a, d) e.1 (new_behind n (entry_names es) (net_names nets) e.0 new)
differ_behind nets (assign n x ∷ es) d e new = differ_behind nets es d e new
differ_behind nets (inst m ps n cs ∷ es) d e new = differ_behind nets es d e.1 (λ k a b. new k (inr a) b)

-- ---- expressions

-- the nets that are used have their widths
abbrev pub Wide : Values → List Net → List (List ℕ) → Type 0
Wide v nets known = (n : List ℕ) (w : ℕ) → Among n known → Declares nets n w → length (v n) ≡ w

-- two lists of one length, bit by bit
zipped_wide : (f : Bool → Bool → Bool) (xs ys : Bits) (w : ℕ) → length xs ≡ w → length ys ≡ w → length (zipped f xs ys) ≡ w
zipped_wide f [] ys w e g = e
zipped_wide f (x ∷ xs) [] w e g = absurd (omega arith)
zipped_wide f (x ∷ xs) (y ∷ ys) w e g = ap suc (zipped_wide f xs ys (length xs) refl (omega arith)) ∙ e

-- a choice of two values of one width
chosen_wide : (c x y : Bits) (w : ℕ) → length x ≡ w → length y ≡ w → length (chosen c x y) ≡ w
chosen_wide [] x y w e g = g
chosen_wide (true ∷ bs) x y w e g = e
chosen_wide (false ∷ bs) x y w e g = g

-- a range of bits
range_wide : (xs : Bits) (u m l w : ℕ) → length xs ≡ u → m < u → l ≤ m → w ≡ suc m - l → length (take (suc m - l) (drop l xs)) ≡ w
range_wide xs u m l w wide below order is =
    let rest : length (drop l xs) ≡ length xs - l = length-drop l xs in
    length-take-le (suc m - l) (drop l xs) (omega arith) ∙ sym is

-- two parts together
both_wide : (xs ys : Bits) (a b w : ℕ) → length ys ≡ a → length xs ≡ b → w ≡ a + b → length (xs ++ ys) ≡ w
both_wide xs ys a b w first rest is = let all = length-append xs ys in omega arith

mutual
  -- an expression of a width has a value of it
  pub value_wide : (v : Values) (nets : List Net) (known : List (List ℕ)) → Wide v nets known → (x : Expression) (w : ℕ) → HasWidth nets x w → Uses known x → length (eval v x) ≡ w
  value_wide v nets known wide (net n) w has uses = wide n w uses has
  value_wide v nets known wide (cut n m l) w has uses = range_wide (v n) has.0 m l w (wide n has.0 uses has.1) has.3 has.4 has.5
  value_wide v nets known wide (lit u k) w has uses = length-bits u k ∙ sym has
  value_wide v nets known wide (cat xs) w has uses = values_wide v nets known wide xs w has.1 uses
  value_wide v nets known wide (inv x) w has uses = length-map (eval v x) not ∙ value_wide v nets known wide x w has uses
  value_wide v nets known wide (any x) w has uses = sym has.0
  value_wide v nets known wide (and x y) w has uses =
      zipped_wide ◌&&◌ (eval v x) (eval v y) w (value_wide v nets known wide x w has.0 uses.0) (value_wide v nets known wide y w has.1 uses.1)
  value_wide v nets known wide (or x y) w has uses =
      zipped_wide ◌||◌ (eval v x) (eval v y) w (value_wide v nets known wide x w has.0 uses.0) (value_wide v nets known wide y w has.1 uses.1)
  value_wide v nets known wide (equal x y) w has uses = sym has.0
  value_wide v nets known wide (pick c x y) w has uses =
      chosen_wide (eval v c) (eval v x) (eval v y) w (value_wide v nets known wide x w has.1 uses.1) (value_wide v nets known wide y w has.2 uses.2)

  -- and parts have the sum of theirs
  values_wide : (v : Values) (nets : List Net) (known : List (List ℕ)) → Wide v nets known → (xs : Expressions) (w : ℕ) → PartsHaveWidth nets xs w → UsesAll known xs → length (eval_parts v xs) ≡ w
  values_wide v nets known wide none w has uses = sym has
  values_wide v nets known wide (more x xs) w has uses =
      both_wide (eval_parts v xs) (eval v x) has.0 has.1 w (value_wide v nets known wide x has.0 has.2 uses.0) (values_wide v nets known wide xs has.1 has.3 uses.1) has.4

-- ---- a flip-flop

-- an instance of prim_flop is one
pub is_flop : (m : List ℕ) (nets : List Net) (ps : List Parameter) (cs : List Connection) → bytes_eq m flop_name ≡ true → PartFits m nets ps cs → FlopFits nets ps cs
is_flop m nets ps cs flop fits = rw flop at fits

-- a connection uses only what all of them use
uses_at : (known : List (List ℕ)) (cs : List Connection) (n : List ℕ) (x : Expression) → ConnectionsUse known cs → connection_at n cs ≡ Some x → Uses known x
uses_at known [] n x uses is = cc
uses_at known (c ∷ cs) n x uses is = by (uses_at known cs n x uses.1) (bytes_eq c.name n) is where
  by : (connection_at n cs ≡ Some x → Uses known x) → (b : Bool) → cond b (Some c.value) (connection_at n cs) ≡ Some x → Uses known x
  by later true e = let same : c.value ≡ x = cc in subst (Uses known) same uses.0
  by later false e = later e

-- the state after a clock has the width of the flip-flop
next_wide : (v state next : Values) (width : ℕ) (d q : Option Expression) → ((x : Expression) → d ≡ Some x → length (eval v x) ≡ width) → IsBareNet q → FlopHolds v state next d q
    → (d ≡ None → ⊥) → StateFits next (Some (lit 0 width)) q
next_wide v state next width None q wide bare holds some = absurd (some refl)
next_wide v state next width (Some x) (Some (net n)) wide bare holds some = ap length holds.1 ∙ wide x refl
next_wide v state next width (Some x) q wide bare holds some = absurd bare

-- ---- all entries

-- a net that was just driven has its width too
wide_behind : (v : Values) (all : List Net) (known : List (List ℕ)) (n : List ℕ) (w : ℕ) → OneWidth all → Wide v all known → Declares all n w → length (v n) ≡ w → Wide v all (n ∷ known)
wide_behind v all known n w one wide declared is m u (inl e) d = subst (λ z. length (v z) ≡ u) (sym e) (is ∙ one n w u declared (subst (λ z. Declares all z u) e d))
wide_behind v all known n w one wide declared is m u (inr a) d = wide m u a d

-- there is an expression of the width
some_of_width : (nets : List Net) (width : ℕ) (d : Option Expression) → IsOfWidth nets width d → d ≡ None → ⊥
some_of_width nets width None has e = has
some_of_width nets width (Some x) has e = cc

has_width_at : (nets : List Net) (width : ℕ) (d : Option Expression) (x : Expression) → IsOfWidth nets width d → d ≡ Some x → HasWidth nets x width
has_width_at nets width None x has e = cc
has_width_at nets width (Some y) x has e = let same : y ≡ x = cc in subst (λ z. HasWidth nets z width) same has

-- the state that an instance of prim_flop takes
flop_next_fits : (v state next : Values) (all nets : List Net) (known : List (List ℕ)) (m : List ℕ) (ps : List Parameter) (cs : List Connection)
    → ((n : List ℕ) (w : ℕ) → Declares nets n w → Declares all n w) → Wide v all known → FlopFits nets ps cs → ConnectionsUse known cs
    → FlopHolds v state next (connection_at (codes "d_i") cs) (connection_at (codes "q_o") cs)
    → StateFits next (parameter_at (codes "Width") ps) (connection_at (codes "q_o") cs)
flop_next_fits v state next all nets known m ps cs up wide fits uses holds =
    let d = connection_at (codes "d_i") cs in
    let has : IsOfWidth nets fits.width d = fits.ports.each.1.1.0 in
    rw fits.width_is
    (next_wide v state next fits.width d (connection_at (codes "q_o") cs)
    (λ x e. value_wide v nets known (λ n w a declared. wide n w a (up n w declared)) x fits.width (has_width_at nets fits.width d x has e) (uses_at known cs (codes "d_i") x uses e))
    fits.bare holds (some_of_width nets fits.width d has))

-- the states after a clock have their widths
pub nexts_fit : (inputs : List (List ℕ)) (v state next : Values) (all nets : List Net) (known : List (List ℕ)) (es : List Entry) → OneWidth all
    → ((n : List ℕ) (w : ℕ) → Declares (nets_after nets es) n w → Declares all n w) → Wide v all known → EntriesFit inputs nets known es → AllOf IsRegisterEntry es
    → AllHold v state next es → AllOf (StateFitsIn next) es
nexts_fit inputs v state next all nets known [] one up wide fit flops holds = tt
nexts_fit inputs v state next all nets known (wire w n ∷ es) one up wide fit flops holds =
    (tt, nexts_fit inputs v state next all (stated n w ∷ nets) known es one up wide fit flops.1 holds.1)
nexts_fit inputs v state next all nets known (drive w n x ∷ es) one up wide fit flops holds =
    let declared : Declares all n w = up n w (declared_after (stated n w ∷ nets) es n w (inl (refl, refl))) in
    let here : Wide v nets known = λ k u a d. wide k u a (up k u (declared_after (stated n w ∷ nets) es k u (inr d))) in
    let is : length (v n) ≡ w = ap length holds.0 ∙ value_wide v nets known here x w fit.0 fit.1 in
    (tt, nexts_fit inputs v state next all (stated n w ∷ nets) (n ∷ known) es one up (wide_behind v all known n w one wide declared is) fit.2 flops.1 holds.1)
nexts_fit inputs v state next all nets known (assign n x ∷ es) one up wide fit flops holds =
    let w : ℕ = fit.0.0 in
    let declared : Declares all n w = up n w (declared_after nets es n w fit.0.1) in
    let here : Wide v nets known = λ k u a d. wide k u a (up k u (declared_after nets es k u d)) in
    let is : length (v n) ≡ w = ap length holds.0 ∙ value_wide v nets known here x w fit.0.2 fit.1 in
    (tt, nexts_fit inputs v state next all nets (n ∷ known) es one up (wide_behind v all known n w one wide declared is) fit.2 flops.1 holds.1)
nexts_fit inputs v state next all nets known (inst m ps n cs ∷ es) one up wide fit flops holds =
    let fits : FlopFits nets ps cs = is_flop m nets ps cs flops.0.0 fit.0 in
    let held : FlopHolds v state next (connection_at (codes "d_i") cs) (connection_at (codes "q_o") cs) = rw flops.0.0 at holds.0 in (
      rw flops.0.0 (flop_next_fits v state next all nets known m ps cs (λ k u d. up k u (declared_after nets es k u d)) wide fits fit.1 held),
      nexts_fit inputs v state next all nets known es one up wide fit.2 flops.1 holds.1,
    )

-- a net that is the first or one of the others
either : (v : Values) (all : List Net) (n : List ℕ) (known names : List (List ℕ)) → Wide v all (n ∷ known) → Wide v all names → Wide v all (n ∷ names)
either v all n known names first others m u (inl e) d = first m u (inl e) d
either v all n known names first others m u (inr a) d = others m u a d

-- and each net with an expression has its width
pub driven_wide : (inputs : List (List ℕ)) (v state next : Values) (all nets : List Net) (known : List (List ℕ)) (es : List Entry) → OneWidth all
    → ((n : List ℕ) (w : ℕ) → Declares (nets_after nets es) n w → Declares all n w) → Wide v all known → EntriesFit inputs nets known es → AllHold v state next es
    → Wide v all (expression_driven es)
driven_wide inputs v state next all nets known [] one up wide fit holds m u a d = absurd a
driven_wide inputs v state next all nets known (wire w n ∷ es) one up wide fit holds m u a d =
    driven_wide inputs v state next all (stated n w ∷ nets) known es one up wide fit holds.1 m u a d
driven_wide inputs v state next all nets known (drive w n x ∷ es) one up wide fit holds m u a d =
    let declared : Declares all n w = up n w (declared_after (stated n w ∷ nets) es n w (inl (refl, refl))) in
    let here : Wide v nets known = λ k z b e. wide k z b (up k z (declared_after (stated n w ∷ nets) es k z (inr e))) in
    let is : length (v n) ≡ w = ap length holds.0 ∙ value_wide v nets known here x w fit.0 fit.1 in
    let behind : Wide v all (n ∷ known) = wide_behind v all known n w one wide declared is in
    either v all n known (expression_driven es) behind (driven_wide inputs v state next all (stated n w ∷ nets) (n ∷ known) es one up behind fit.2 holds.1) m u a d
driven_wide inputs v state next all nets known (assign n x ∷ es) one up wide fit holds m u a d =
    let w : ℕ = fit.0.0 in
    let declared : Declares all n w = up n w (declared_after nets es n w fit.0.1) in
    let here : Wide v nets known = λ k z b e. wide k z b (up k z (declared_after nets es k z e)) in
    let is : length (v n) ≡ w = ap length holds.0 ∙ value_wide v nets known here x w fit.0.2 fit.1 in
    let behind : Wide v all (n ∷ known) = wide_behind v all known n w one wide declared is in
    either v all n known (expression_driven es) behind (driven_wide inputs v state next all nets (n ∷ known) es one up behind fit.2 holds.1) m u a d
driven_wide inputs v state next all nets known (inst p ps n cs ∷ es) one up wide fit holds m u a d = driven_wide inputs v state next all nets known es one up wide fit.2 holds.1 m u a d
