-- The table of a clock has the values of every valuation.
use Rattle.std.proofs.Common.{◌≡◌, ℕ, suc, ◌-◌, ◌⊎◌, inl, inr, Bool, true, false, not, cond, List, [], ◌∷◌, map, take, drop, refl, ap, sym, ◌∙◌}
use Rattle.std.specs.Str.{bytes_eq}
use Rattle.cg_svspec.specs.Bits.{Bits, bits, any_bit}
use Rattle.cg_svspec.specs.Names.{Among}
use Rattle.cg_svspec.specs.Tree.{Expression, net, cut, lit, cat, inv, any, and, or, equal, pick, Expressions, none, more, Port, Entry, wire, drive, assign, inst}
use Rattle.cg_svspec.specs.Value.{Values, eval, eval_parts, AllHold}
use Rattle.cg_svspec.specs.WellFormed.{Net, stated, Uses, UsesAll, EntriesFit, expression_driven, inputs_of}
use Rattle.cg_svspec.proofs.NamesLemmas.{name_is_itself, same_name}
use Rattle.cg_sveval.specs.declared.Cell.{Cell}
use Rattle.cg_sveval.specs.Tables.{with_value, with_inputs, settled, cell_value}

-- the two have one value for each of the names
abbrev pub Agree : Values → Values → List (List ℕ) → Type 0
Agree table v known = (n : List ℕ) → Among n known → table n ≡ v n

mutual
  pub eval_agrees : (table v : Values) (known : List (List ℕ)) → Agree table v known → (x : Expression) → Uses known x → eval table x ≡ eval v x
  eval_agrees table v known agree (net n) uses = agree n uses
  eval_agrees table v known agree (cut n m l) uses = ap (λ z. take (suc m - l) (drop l z)) (agree n uses)
  eval_agrees table v known agree (lit w k) uses = refl
  eval_agrees table v known agree (cat xs) uses = parts_agree table v known agree xs uses
  eval_agrees table v known agree (inv x) uses = ap (map not) (eval_agrees table v known agree x uses)
  eval_agrees table v known agree (any x) uses = ap (λ z. any_bit z ∷ []) (eval_agrees table v known agree x uses)
  eval_agrees table v known agree (and x y) uses = rw (eval_agrees table v known agree x uses.0, eval_agrees table v known agree y uses.1) refl
  eval_agrees table v known agree (or x y) uses = rw (eval_agrees table v known agree x uses.0, eval_agrees table v known agree y uses.1) refl
  eval_agrees table v known agree (equal x y) uses = rw (eval_agrees table v known agree x uses.0, eval_agrees table v known agree y uses.1) refl
  eval_agrees table v known agree (pick c x y) uses =
      rw (eval_agrees table v known agree c uses.0, eval_agrees table v known agree x uses.1, eval_agrees table v known agree y uses.2) refl

  parts_agree : (table v : Values) (known : List (List ℕ)) → Agree table v known → (xs : Expressions) → UsesAll known xs → eval_parts table xs ≡ eval_parts v xs
  parts_agree table v known agree none uses = refl
  parts_agree table v known agree (more x xs) uses = rw (eval_agrees table v known agree x uses.0, parts_agree table v known agree xs uses.1) refl

-- a name's value that is put in is the valuation's
pub put_agrees : (name : List ℕ) (value : Bits) (table v : Values) (n : List ℕ) → value ≡ v name → (table n ≡ v n) ⊎ (n ≡ name) → with_value name value table n ≡ v n
put_agrees name value table v n is kept = by (bytes_eq name n) refl kept where
  by : (b : Bool) → bytes_eq name n ≡ b → (table n ≡ v n) ⊎ (n ≡ name) → cond b value (table n) ≡ v n
  by true same kept = is ∙ ap v (same_name name n same)
  by false other (inl e) = e
  by false other (inr e) = let same : bytes_eq name n ≡ true = rw e (name_is_itself name) in cc

-- what is put in is known from then on
then_known : (k : List ℕ) (value : Bits) (table v : Values) (known : List (List ℕ)) → value ≡ v k → Agree table v known → Agree (with_value k value table) v (k ∷ known)
then_known k value table v known is agree n (inl e) = put_agrees k value table v n is (inr e)
then_known k value table v known is agree n (inr a) = put_agrees k value table v n is (inl (agree n a))

then_driven : (k : List ℕ) (value : Bits) (table v : Values) (n : List ℕ) (ns : List (List ℕ)) → value ≡ v k → (table n ≡ v n) ⊎ Among n (k ∷ ns) → (with_value k value table n ≡ v n) ⊎ Among n ns
then_driven k value table v n ns is (inl e) = inl (put_agrees k value table v n is (inl e))
then_driven k value table v n ns is (inr (inl e)) = inl (put_agrees k value table v n is (inr e))
then_driven k value table v n ns is (inr (inr a)) = inr a

-- the nets with an expression get the valuation's values
pub settled_agrees : (inputs : List (List ℕ)) (table v state next : Values) (nets : List Net) (known : List (List ℕ)) (es : List Entry) → EntriesFit inputs nets known es → AllHold v state next es
    → Agree table v known → (n : List ℕ) → (table n ≡ v n) ⊎ Among n (expression_driven es) → settled table es n ≡ v n
settled_agrees inputs table v state next nets known [] fit hold agree n (inl e) = e
settled_agrees inputs table v state next nets known [] fit hold agree n (inr a) = absurd a
settled_agrees inputs table v state next nets known (wire w k ∷ es) fit hold agree n is = settled_agrees inputs table v state next (stated k w ∷ nets) known es fit hold.1 agree n is
settled_agrees inputs table v state next nets known (inst m ps k cs ∷ es) fit hold agree n is = settled_agrees inputs table v state next nets known es fit.2 hold.1 agree n is
settled_agrees inputs table v state next nets known (drive w k x ∷ es) fit hold agree n is =
    let value : eval table x ≡ v k = eval_agrees table v known agree x fit.1 ∙ sym hold.0 in
    settled_agrees inputs (with_value k (eval table x) table) v state next (stated k w ∷ nets) (k ∷ known) es fit.2 hold.1 (then_known k (eval table x) table v known value agree) n
    (then_driven k (eval table x) table v n (expression_driven es) value is)
settled_agrees inputs table v state next nets known (assign k x ∷ es) fit hold agree n is =
    let value : eval table x ≡ v k = eval_agrees table v known agree x fit.1 ∙ sym hold.0 in
    settled_agrees inputs (with_value k (eval table x) table) v state next nets (k ∷ known) es fit.2 hold.1 (then_known k (eval table x) table v known value agree) n
    (then_driven k (eval table x) table v n (expression_driven es) value is)

-- the inputs get the values that are given
pub inputs_agree : (cells : List Cell) (v : Values) (ps : List Port) (table : Values) → ((p : Port) → Among p ps → p.input ≡ true → bits p.width (cell_value cells p.name) ≡ v p.name)
    → (n : List ℕ) → (table n ≡ v n) ⊎ Among n (inputs_of ps) → with_inputs cells table ps n ≡ v n
inputs_agree cells v [] table given n (inl e) = e
inputs_agree cells v [] table given n (inr a) = absurd a
inputs_agree cells v (p ∷ ps) table given n is = by (λ later. inputs_agree cells v ps later (λ q a. given q (inr a)) n) p.input (given p (inl refl)) is where
  by : ((later : Values) → (later n ≡ v n) ⊎ Among n (inputs_of ps) → with_inputs cells later ps n ≡ v n) → (b : Bool)
      → (b ≡ true → bits p.width (cell_value cells p.name) ≡ v p.name) → (table n ≡ v n) ⊎ Among n (cond b (p.name ∷ inputs_of ps) (inputs_of ps))
      → with_inputs cells (cond b (with_value p.name (bits p.width (cell_value cells p.name)) table) table) ps n ≡ v n
  by others true value is =
      others (with_value p.name (bits p.width (cell_value cells p.name)) table) (then_driven p.name (bits p.width (cell_value cells p.name)) table v n (inputs_of ps) (value refl) is)
  by others false value is = others table is
