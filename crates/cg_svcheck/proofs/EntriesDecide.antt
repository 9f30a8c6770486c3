-- The test decides whether the entries fit where they stand.
use Rattle.std.proofs.Common.{◌≡◌, ℕ, ◌+◌, Bool, true, false, cond, ltb, ◌&&◌, ◌||◌, ◌⊎◌, inl, inr, List, [], ◌∷◌, ◌++◌, Option, Some, None, refl, sym, ap, subst, ◌∙◌, arith}
use Rattle.std.specs.Bool.{Decides}
use Rattle.std.specs.Str.{bytes_eq}
use Rattle.std.proofs.lemmas.Bool.{lt-ltb}
use Rattle.cg_svspec.specs.Tree.{Expression, Port, Entry, wire, drive, assign, inst, Module}
use Rattle.cg_svspec.specs.Names.{Among, Differ, is_among, port_names, entry_names}
use Rattle.cg_svspec.specs.Printable.{AllOf, IsPrintableEntry}
use Rattle.cg_svspec.specs.WellFormed.{Net, stated, Declares, HasWidth, port_nets, inputs_of, instance_driven, EntriesFit}
use Rattle.cg_svspec.proofs.NamesLemmas.{name_is_itself, same_name, among_front, among_back, among_parts}
use Rattle.cg_svspec.proofs.Widths.{net_names, declared_is_named, one_width}
use Rattle.cg_svcheck.specs.Counting.{one_if, instances_count, expressions_count}
use Rattle.cg_svcheck.specs.Widths.{width_at, wire_nets, or_else, width_above, width_of, is_known}
use Rattle.cg_svcheck.specs.Fitting.{same_width, entries_fit}
use Rattle.cg_svcheck.proofs.Deciding.{decides_true, decides_as, decides_both, decides_either, decides_same, decides_among}
use Rattle.cg_svcheck.proofs.FormLemmas.{decided}
use Rattle.cg_svcheck.proofs.WidthsDecide.{Agrees, agrees, Tells, uses_decides}
use Rattle.cg_svcheck.proofs.CountLemmas.{count, counted_decides}
use Rattle.cg_svcheck.proofs.CountsDecide.{instances_are}
use Rattle.cg_svcheck.proofs.PartsDecide.{width_decides, part_decides, connections_use_decide}

-- ---- widths one entry further down

-- the first of three
first_of : (p q r : Option ℕ) → or_else p (or_else q r) ≡ or_else (or_else p q) r
first_of None q r = refl
first_of (Some w) q r = refl

-- or nothing
pub or_nothing : (p : Option ℕ) → or_else p None ≡ p
or_nothing None = refl
or_nothing (Some w) = refl

-- of wires above, and one entry more
wires_more : (above : List Entry) (x : Entry) (k : List ℕ) → width_at (wire_nets (above ++ x ∷ [])) k ≡ or_else (width_at (wire_nets above) k) (width_at (wire_nets (x ∷ [])) k)
wires_more [] x k = refl
wires_more (wire w n ∷ es) x k = by (bytes_eq n k) (wires_more es x k) where
  by : (b : Bool) → width_at (wire_nets (es ++ x ∷ [])) k ≡ or_else (width_at (wire_nets es) k) (width_at (wire_nets (x ∷ [])) k)
      → cond b (Some w) (width_at (wire_nets (es ++ x ∷ [])) k) ≡ or_else (cond b (Some w) (width_at (wire_nets es) k)) (width_at (wire_nets (x ∷ [])) k)
  by true e = refl
  by false e = e
wires_more (drive w n y ∷ es) x k = by (bytes_eq n k) (wires_more es x k) where
  by : (b : Bool) → width_at (wire_nets (es ++ x ∷ [])) k ≡ or_else (width_at (wire_nets es) k) (width_at (wire_nets (x ∷ [])) k)
      → cond b (Some w) (width_at (wire_nets (es ++ x ∷ [])) k) ≡ or_else (cond b (Some w) (width_at (wire_nets es) k)) (width_at (wire_nets (x ∷ [])) k)
  by true e = refl
  by false e = e
wires_more (assign n y ∷ es) x k = wires_more es x k
wires_more (inst m ps n cs ∷ es) x k = wires_more es x k

pub above_more : (ports : List Port) (above : List Entry) (x : Entry) (k : List ℕ) → width_above ports (above ++ x ∷ []) k ≡ or_else (width_above ports above k) (width_at (wire_nets (x ∷ [])) k)
unfolding width_above
above_more ports above x k =
    ap (or_else (width_at (port_nets ports) k)) (wires_more above x k)
    ∙ first_of (width_at (port_nets ports) k) (width_at (wire_nets above) k) (width_at (wire_nets (x ∷ [])) k)

-- an entry that declares no net
agrees_still : (e f : List ℕ → Option ℕ) (nets : List Net) → ((k : List ℕ) → f k ≡ or_else (e k) None) → Agrees e nets → Agrees f nets
agrees_still e f nets is agree = record {
  sound = λ k u h. agree.sound k u (sym (is k ∙ or_nothing (e k)) ∙ h);
  complete = λ k u d. is k ∙ or_nothing (e k) ∙ agree.complete k u d;
}

-- one that declares a net of a new name
agrees_more : (e f : List ℕ → Option ℕ) (nets : List Net) (n : List ℕ) (w : ℕ) → (Among n (net_names nets) → ⊥) → ((k : List ℕ) → f k ≡ or_else (e k) (cond (bytes_eq n k) (Some w) None))
    → Agrees e nets → Agrees f (stated n w ∷ nets)
agrees_more e f nets n w new is agree = record { sound = λ k u h. sound k u (e k) refl (bytes_eq n k) refl (sym (is k) ∙ h); complete = complete } where
  sound : (k : List ℕ) (u : ℕ) (o : Option ℕ) → e k ≡ o → (b : Bool) → bytes_eq n k ≡ b → or_else o (cond b (Some w) None) ≡ Some u → Declares (stated n w ∷ nets) k u
  sound k u (Some z) at b same h = inr (agree.sound k u (at ∙ h))
  sound k u None at true same h = let wide : w ≡ u = cc in inl (same_name n k same, wide)
  sound k u None at false same h = cc

  fresh : (o : Option ℕ) → e n ≡ o → o ≡ None
  fresh None at = refl
  fresh (Some z) at = absurd (new (declared_is_named nets n z (agree.sound n z at)))

  here : f n ≡ Some w
  here = is n ∙ ap (λ (o : Option ℕ). or_else o (cond (bytes_eq n n) (Some w) None)) (fresh (e n) refl) ∙ ap (λ (b : Bool). cond b (Some w) None) (name_is_itself n)

  complete : (k : List ℕ) (u : ℕ) → Declares (stated n w ∷ nets) k u → f k ≡ Some u
  complete k u (inl d) = ap f (sym d.0) ∙ here ∙ ap Some d.1
  complete k u (inr d) = is k ∙ ap (λ (o : Option ℕ). or_else o (cond (bytes_eq n k) (Some w) None)) (agree.complete k u d)

-- ---- known nets one entry further down

expressions_more : (k : List ℕ) (above : List Entry) (x : Entry) → expressions_count k (above ++ x ∷ []) ≡ expressions_count k above + expressions_count k (x ∷ [])
expressions_more k [] x = omega arith
expressions_more k (wire w n ∷ es) x = expressions_more k es x
expressions_more k (drive w n y ∷ es) x = omega (arith, expressions_more k es x)
expressions_more k (assign n y ∷ es) x = omega (arith, expressions_more k es x)
expressions_more k (inst m ps n cs ∷ es) x = expressions_more k es x

-- a test of a count, and one more
one_more : (i t b : Bool) (c d : ℕ) → d ≡ c + one_if b → (i || (t || ltb 0 d)) ≡ (b || (i || (t || ltb 0 c)))
one_more true t true c d is = refl
one_more false true true c d is = refl
one_more false false true c d is = lt-ltb 0 d (omega (arith, is))
one_more i t false c d is = ap (λ (k : ℕ). i || (t || ltb 0 k)) (omega (arith, is))

pub known_more : (m : Module) (above : List Entry) (x : Entry) (b : Bool) (k : List ℕ) → expressions_count k (x ∷ []) ≡ one_if b → is_known m (above ++ x ∷ []) k ≡ (b || is_known m above k)
unfolding is_known
known_more m above x b k is =
    one_more (is_among (inputs_of m.ports) k) (ltb 0 (instances_count (inputs_of m.ports) k m.entries)) b (expressions_count k above) (expressions_count k (above ++ x ∷ []))
    (omega (arith, expressions_more k above x, is))

-- an entry that drives no net by an expression
tells_still : (m : Module) (above : List Entry) (x : Entry) (known : List (List ℕ)) → ((k : List ℕ) → expressions_count k (x ∷ []) ≡ 0) → Tells (is_known m above) known
    → Tells (is_known m (above ++ x ∷ [])) known
tells_still m above x known is tells k = decided (is_known m (above ++ x ∷ []) k) (is_known m above k) (known_more m above x false k (is k)) (tells k)

-- one that does
tells_more : (m : Module) (above : List Entry) (x : Entry) (n : List ℕ) (known : List (List ℕ)) → ((k : List ℕ) → expressions_count k (x ∷ []) ≡ one_if (bytes_eq n k))
    → Tells (is_known m above) known → Tells (is_known m (above ++ x ∷ [])) (n ∷ known)
tells_more m above x n known is tells k =
    decided (is_known m (above ++ x ∷ []) k) (bytes_eq n k || is_known m above k) (known_more m above x (bytes_eq n k) k (is k))
    (decides_as (decides_either (decides_same n k) (tells k)) turn back) where
      turn : (n ≡ k) ⊎ Among k known → (k ≡ n) ⊎ Among k known
      turn (inl e) = inl (sym e)
      turn (inr a) = inr a

      back : (k ≡ n) ⊎ Among k known → (n ≡ k) ⊎ Among k known
      back (inl e) = inl (sym e)
      back (inr a) = inr a

-- ---- entries

-- no entry declares a name that stands above
abbrev New : List (List ℕ) → List (List ℕ) → Type 0
New names known = (n : List ℕ) → Among n names → Among n known → ⊥

new_behind : (n : List ℕ) (names known : List (List ℕ)) → (Among n names → ⊥) → New (n ∷ names) known → New names (n ∷ known)
new_behind n names known alone new m a (inl e) = alone (subst (λ z. Among z names) e a)
new_behind n names known alone new m a (inr b) = new m (inr a) b

-- an assigned net has the width of its expression
same_decides : (e : List ℕ → Option ℕ) (nets : List Net) → Agrees e nets → (n : List ℕ) (x : Expression)
    → Decides (same_width (e n) (width_of e x)) ((w : ℕ) × Declares nets n w × HasWidth nets x w)
same_decides e nets agree n x = (λ h. up (e n) refl h, down) where
  up : (o : Option ℕ) → e n ≡ o → same_width o (width_of e x) ≡ true → (w : ℕ) × Declares nets n w × HasWidth nets x w
  up None is h = cc
  up (Some w) is h = (w, agree.sound n w is, (width_decides e nets agree x w).0 h)

  down : (w : ℕ) × Declares nets n w × HasWidth nets x w → same_width (e n) (width_of e x) ≡ true
  down d = rw (agree.complete n d.0 d.1) ((width_decides e nets agree x d.0).1 d.2)

-- three facts in a row, of which two are tested first
decides_row : {P Q R : Type 0} {a b c : Bool} → Decides a P → Decides b Q → Decides c R → Decides ((a && b) && c) (P × Q × R)
decides_row d e f = decides_as (decides_both (decides_both d e) f) (λ h. (h.0.0, h.0.1, h.1)) (λ h. ((h.0, h.1), h.2))

pub entries_decide : (m : Module) (above es : List Entry) (nets : List Net) (known : List (List ℕ)) → AllOf IsPrintableEntry es → Differ (entry_names es)
    → New (entry_names es) (net_names nets) → Agrees (width_above m.ports above) nets → Tells (is_known m above) known
    → Decides (entries_fit m above es) (EntriesFit (inputs_of m.ports) nets known es)
entries_decide m above [] nets known printable differ new agree tells = decides_true tt
entries_decide m above (wire w n ∷ es) nets known printable differ new agree tells =
    entries_decide m (above ++ wire w n ∷ []) es (stated n w ∷ nets) known printable.1 differ.1 (new_behind n (entry_names es) (net_names nets) differ.0 new)
    (agrees_more (width_above m.ports above) (width_above m.ports (above ++ wire w n ∷ [])) nets n w (new n (inl refl)) (above_more m.ports above (wire w n)) agree)
    (tells_still m above (wire w n) known (λ k. refl) tells)
entries_decide m above (drive w n x ∷ es) nets known printable differ new agree tells =
    decides_row (width_decides (width_above m.ports above) nets agree x w) (uses_decides (is_known m above) known tells x)
    (entries_decide m (above ++ drive w n x ∷ []) es (stated n w ∷ nets) (n ∷ known) printable.1 differ.1 (new_behind n (entry_names es) (net_names nets) differ.0 new)
    (agrees_more (width_above m.ports above) (width_above m.ports (above ++ drive w n x ∷ [])) nets n w (new n (inl refl)) (above_more m.ports above (drive w n x)) agree)
    (tells_more m above (drive w n x) n known (λ k. omega arith) tells))
entries_decide m above (assign n x ∷ es) nets known printable differ new agree tells =
    decides_row (same_decides (width_above m.ports above) nets agree n x) (uses_decides (is_known m above) known tells x)
    (entries_decide m (above ++ assign n x ∷ []) es nets (n ∷ known) printable.1 differ new
    (agrees_still (width_above m.ports above) (width_above m.ports (above ++ assign n x ∷ [])) nets (above_more m.ports above (assign n x)) agree)
    (tells_more m above (assign n x) n known (λ k. omega arith) tells))
entries_decide m above (inst p ps n cs ∷ es) nets known printable differ new agree tells =
    decides_row (part_decides (width_above m.ports above) nets agree p ps cs printable.0.1) (connections_use_decide (is_known m above) known tells cs)
    (entries_decide m (above ++ inst p ps n cs ∷ []) es nets known printable.1 differ.1 (λ k a b. new k (inr a) b)
    (agrees_still (width_above m.ports above) (width_above m.ports (above ++ inst p ps n cs ∷ [])) nets (above_more m.ports above (inst p ps n cs)) agree)
    (tells_still m above (inst p ps n cs) known (λ k. refl) tells))

-- ---- at the first entry

-- the names of the ports' nets
pub names_of_ports : (ps : List Port) → net_names (port_nets ps) ≡ port_names ps
names_of_ports [] = refl
names_of_ports (p ∷ ps) = ap (λ (ns : List (List ℕ)). p.name ∷ ns) (names_of_ports ps)

pub agrees_first : (ports : List Port) → Differ (port_names ports) → Agrees (width_above ports []) (port_nets ports)
unfolding width_above
agrees_first ports differ =
    agrees_still (width_at (port_nets ports)) (λ k. or_else (width_at (port_nets ports) k) None) (port_nets ports) (λ k. refl)
    (agrees (port_nets ports) (one_width (port_nets ports) (subst Differ (sym (names_of_ports ports)) differ)))

-- a test of none
or_none : (a b : Bool) → (a || (b || false)) ≡ (a || b)
or_none true b = refl
or_none false true = refl
or_none false false = refl

pub tells_first : (m : Module) → Tells (is_known m []) (inputs_of m.ports ++ instance_driven (inputs_of m.ports) m.entries)
unfolding is_known
tells_first m n =
    decided (is_known m [] n) (is_among (inputs_of m.ports) n || ltb 0 (count n (instance_driven (inputs_of m.ports) m.entries)))
    (or_none (is_among (inputs_of m.ports) n) (ltb 0 (instances_count (inputs_of m.ports) n m.entries))
    ∙ ap (λ (k : ℕ). is_among (inputs_of m.ports) n || ltb 0 k) (sym (instances_are (inputs_of m.ports) n m.entries)))
    (decides_as (decides_either (decides_among (inputs_of m.ports) n) (counted_decides n (instance_driven (inputs_of m.ports) m.entries)))
    (join n (inputs_of m.ports) (instance_driven (inputs_of m.ports) m.entries))
    (among_parts n (inputs_of m.ports) (instance_driven (inputs_of m.ports) m.entries))) where
      join : (n : List ℕ) (xs ys : List (List ℕ)) → Among n xs ⊎ Among n ys → Among n (xs ++ ys)
      join n xs ys (inl a) = among_front n xs ys a
      join n xs ys (inr a) = among_back n xs ys a
