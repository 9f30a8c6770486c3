-- The tests of Counting decide whether names and drivers differ, and what is driven.
use Rattle.std.proofs.Common.{◌≡◌, ℕ, ◌+◌, Bool, true, false, not, cond, ltb, ◌&&◌, ◌||◌, ◌⊎◌, inl, inr, Some, None, List, [], ◌∷◌, ◌++◌, refl, sym, ap, ◌∙◌, arith}
use Rattle.std.specs.Bool.{Decides}
use Rattle.std.specs.List.{list_all}
use Rattle.std.specs.Str.{bytes_eq}
use Rattle.cg_svspec.specs.Tree.{Expression, net, cut, lit, cat, inv, any, and, or, equal, pick, Expressions, none, more, Port, Connection, Entry, wire, drive, assign, inst, Module}
use Rattle.cg_svspec.specs.Names.{Among, Differ, port_names, entry_names, module_names}
use Rattle.cg_svspec.specs.WellFormed.{is_output, bare_parts, driven_nets, driven_by_connections, instance_driven, expression_driven, inputs_of, outputs_of, wires_of, AllAmong, NoneAmong, drivers_of, connection_names}
use Rattle.cg_svcheck.specs.Counting.{one_if, all_bare, bare_count, driven_count, connections_count, instances_count, expressions_count, drivers_count, bare_pass, driven_pass, connections_pass, entry_passes, is_driven_once, is_driven, drivers_differ, is_port_driven, is_wire_driven, ports_count, entries_count, is_declared_once, is_port_once, is_entry_once, names_differ}
use Rattle.cg_svcheck.specs.Fitting.{connected_count, is_connected_once, connections_differ}
use Rattle.cg_svcheck.proofs.Deciding.{decides_true, decides_as, decides_both, decides_not}
use Rattle.cg_svcheck.proofs.FormLemmas.{decided}
use Rattle.cg_svcheck.proofs.CountLemmas.{count, count_both, all_both, once_decides, counted_decides}

-- ---- what outputs drive

-- the nets of a concatenation, which has bare nets alone, or else none
abbrev Bare : Expressions → Type 0
Bare xs =
    ((ns : List (List ℕ)) × (bare_parts xs ≡ Some ns) × (all_bare xs ≡ true) × ((n : List ℕ) → count n ns ≡ bare_count n xs) × ((p : List ℕ → Bool) → list_all p ns ≡ bare_pass p xs))
    ⊎ ((bare_parts xs ≡ None) × (all_bare xs ≡ false))

bare : (xs : Expressions) → Bare xs
bare none = inl ([], refl, refl, λ n. refl, λ p. refl)
bare (more (net m) xs) = by (bare xs) where
  by : Bare xs → Bare (more (net m) xs)
  by (inl b) = inl (m ∷ b.0, rw (b.1) refl, b.2, λ n. ap (λ (k : ℕ). one_if (bytes_eq m n) + k) (b.3 n), λ p. ap (λ (t : Bool). p m && t) (b.4 p))
  by (inr b) = inr (rw (b.0) refl, b.1)
bare (more (cut n m l) xs) = inr (refl, refl)
bare (more (lit w v) xs) = inr (refl, refl)
bare (more (cat ys) xs) = inr (refl, refl)
bare (more (inv y) xs) = inr (refl, refl)
bare (more (any y) xs) = inr (refl, refl)
bare (more (and y z) xs) = inr (refl, refl)
bare (more (or y z) xs) = inr (refl, refl)
bare (more (equal y z) xs) = inr (refl, refl)
bare (more (pick c y z) xs) = inr (refl, refl)

driven_is : (name : List ℕ) (x : Expression) → count name (driven_nets x) ≡ driven_count name x
driven_is name (net m) = omega arith
driven_is name (cat xs) = by (bare xs) where
  by : Bare xs → count name (driven_nets (cat xs)) ≡ driven_count name (cat xs)
  by (inl b) = rw (b.1, b.2) (b.3 name)
  by (inr b) = rw (b.0, b.1) refl
driven_is name (cut n m l) = refl
driven_is name (lit w v) = refl
driven_is name (inv y) = refl
driven_is name (any y) = refl
driven_is name (and y z) = refl
driven_is name (or y z) = refl
driven_is name (equal y z) = refl
driven_is name (pick c y z) = refl

connections_are : (inputs : List (List ℕ)) (m n : List ℕ) (cs : List Connection) → count n (driven_by_connections inputs m cs) ≡ connections_count inputs m n cs
connections_are inputs m n [] = refl
connections_are inputs m n (c ∷ cs) = by (connections_are inputs m n cs) (is_output inputs m c) where
  by : count n (driven_by_connections inputs m cs) ≡ connections_count inputs m n cs → (b : Bool)
      → count n (cond b (driven_nets c.value) [] ++ driven_by_connections inputs m cs) ≡ cond b (driven_count n c.value) 0 + connections_count inputs m n cs
  by later true = omega (arith, later, count_both n (driven_nets c.value) (driven_by_connections inputs m cs), driven_is n c.value)
  by later false = omega (arith, later)

pub instances_are : (inputs : List (List ℕ)) (n : List ℕ) (es : List Entry) → count n (instance_driven inputs es) ≡ instances_count inputs n es
instances_are inputs n [] = refl
instances_are inputs n (wire w m ∷ es) = instances_are inputs n es
instances_are inputs n (drive w m x ∷ es) = instances_are inputs n es
instances_are inputs n (assign m x ∷ es) = instances_are inputs n es
instances_are inputs n (inst m ps k cs ∷ es) =
    omega (arith, count_both n (driven_by_connections inputs m cs) (instance_driven inputs es), connections_are inputs m n cs, instances_are inputs n es)

pub expressions_are : (n : List ℕ) (es : List Entry) → count n (expression_driven es) ≡ expressions_count n es
expressions_are n [] = refl
expressions_are n (wire w m ∷ es) = expressions_are n es
expressions_are n (drive w m x ∷ es) = ap (λ (k : ℕ). one_if (bytes_eq m n) + k) (expressions_are n es)
expressions_are n (assign m x ∷ es) = ap (λ (k : ℕ). one_if (bytes_eq m n) + k) (expressions_are n es)
expressions_are n (inst m ps k cs ∷ es) = expressions_are n es

drivers_are : (m : Module) (n : List ℕ) → count n (drivers_of m) ≡ drivers_count m n
unfolding drivers_count
drivers_are m n =
    omega (arith, count_both n (expression_driven m.entries) (instance_driven (inputs_of m.ports) m.entries), expressions_are n m.entries, instances_are (inputs_of m.ports) n m.entries)

-- ---- each driver

driven_all : (p : List ℕ → Bool) (x : Expression) → list_all p (driven_nets x) ≡ driven_pass p x
driven_all p (net m) = by (p m) where
  by : (b : Bool) → (b && true) ≡ b
  by true = refl
  by false = refl
driven_all p (cat xs) = by (bare xs) where
  by : Bare xs → list_all p (driven_nets (cat xs)) ≡ driven_pass p (cat xs)
  by (inl b) = rw (b.1, b.2) (b.4 p)
  by (inr b) = rw (b.0, b.1) refl
driven_all p (cut n m l) = refl
driven_all p (lit w v) = refl
driven_all p (inv y) = refl
driven_all p (any y) = refl
driven_all p (and y z) = refl
driven_all p (or y z) = refl
driven_all p (equal y z) = refl
driven_all p (pick c y z) = refl

connections_all : (inputs : List (List ℕ)) (m : List ℕ) (p : List ℕ → Bool) (cs : List Connection) → list_all p (driven_by_connections inputs m cs) ≡ connections_pass inputs m p cs
connections_all inputs m p [] = refl
connections_all inputs m p (c ∷ cs) = by (connections_all inputs m p cs) (is_output inputs m c) where
  by : list_all p (driven_by_connections inputs m cs) ≡ connections_pass inputs m p cs → (b : Bool)
      → list_all p (cond b (driven_nets c.value) [] ++ driven_by_connections inputs m cs) ≡ ((not b || driven_pass p c.value) && connections_pass inputs m p cs)
  by later true = all_both p (driven_nets c.value) (driven_by_connections inputs m cs) ∙ (λ i. driven_all p c.value i && later i)
  by later false = later

-- a test before two others
before : (a b c d : Bool) → d ≡ (b && c) → (a && d) ≡ ((a && b) && c)
before true b c d e = e
before false b c d e = refl

-- a test between two others
between : (a b c d : Bool) → d ≡ (b && c) → (a && d) ≡ (b && (a && c))
between true b c d e = e
between false true c d e = refl
between false false c d e = refl

entries_all : (inputs : List (List ℕ)) (p : List ℕ → Bool) (es : List Entry)
    → list_all (entry_passes inputs p) es ≡ (list_all p (expression_driven es) && list_all p (instance_driven inputs es))
entries_all inputs p [] = refl
entries_all inputs p (wire w m ∷ es) = entries_all inputs p es
entries_all inputs p (drive w m x ∷ es) =
    before (p m) (list_all p (expression_driven es)) (list_all p (instance_driven inputs es)) (list_all (entry_passes inputs p) es) (entries_all inputs p es)
entries_all inputs p (assign m x ∷ es) =
    before (p m) (list_all p (expression_driven es)) (list_all p (instance_driven inputs es)) (list_all (entry_passes inputs p) es) (entries_all inputs p es)
entries_all inputs p (inst m ps k cs ∷ es) =
    between (connections_pass inputs m p cs) (list_all p (expression_driven es)) (list_all p (instance_driven inputs es)) (list_all (entry_passes inputs p) es) (entries_all inputs p es)
    ∙ ap (λ (t : Bool). list_all p (expression_driven es) && t)
    (sym (all_both p (driven_by_connections inputs m cs) (instance_driven inputs es)
    ∙ ap (λ (t : Bool). t && list_all p (instance_driven inputs es)) (connections_all inputs m p cs)))

-- The test decides whether no net has two drivers.
pub drivers_decide : (m : Module) → Decides (drivers_differ m) (Differ (drivers_of m))
unfolding drivers_differ is_driven_once
drivers_decide m =
    decided (drivers_differ m) (list_all (is_driven_once m) (drivers_of m))
    (entries_all (inputs_of m.ports) (is_driven_once m) m.entries ∙ sym (all_both (is_driven_once m) (expression_driven m.entries) (instance_driven (inputs_of m.ports) m.entries)))
    (once_decides (is_driven_once m) (drivers_of m) (λ n. ap (λ (k : ℕ). ltb k 2) (sym (drivers_are m n))))

-- ---- what is driven

pub driven_decides : (m : Module) (n : List ℕ) → Decides (is_driven m n) (Among n (drivers_of m))
unfolding is_driven
driven_decides m n = decided (is_driven m n) (ltb 0 (count n (drivers_of m))) (ap (λ (k : ℕ). ltb 0 k) (sym (drivers_are m n))) (counted_decides n (drivers_of m))

-- outputs are driven, and inputs are not
abbrev pub PortsDriven : Module → List Port → Type 0
PortsDriven m ps = AllAmong (outputs_of ps) (drivers_of m) × NoneAmong (inputs_of ps) (drivers_of m)

pub ports_decide : (m : Module) (ps : List Port) → Decides (list_all (is_port_driven m) ps) (PortsDriven m ps)
ports_decide m [] = decides_true (tt, tt)
ports_decide m (p ∷ ps) = by (ports_decide m ps) p.input where
  by : Decides (list_all (is_port_driven m) ps) (PortsDriven m ps) → (b : Bool)
      → Decides (cond b (not (is_driven m p.name)) (is_driven m p.name) && list_all (is_port_driven m) ps)
      (AllAmong (cond b (outputs_of ps) (p.name ∷ outputs_of ps)) (drivers_of m) × NoneAmong (cond b (p.name ∷ inputs_of ps) (inputs_of ps)) (drivers_of m))
  by later true = decides_as (decides_both (decides_not (driven_decides m p.name)) later) (λ h. (h.1.0, (h.0, h.1.1))) (λ h. (h.1.0, (h.0, h.1.1)))
  by later false = decides_as (decides_both (driven_decides m p.name) later) (λ h. ((h.0, h.1.0), h.1.1)) (λ h. (h.0.0, (h.0.1, h.1)))

pub wires_decide : (m : Module) (es : List Entry) → Decides (list_all (is_wire_driven m) es) (AllAmong (wires_of es) (drivers_of m))
wires_decide m [] = decides_true tt
wires_decide m (wire w n ∷ es) = decides_both (driven_decides m n) (wires_decide m es)
wires_decide m (drive w n x ∷ es) = decides_both (driven_decides m n) (wires_decide m es)
wires_decide m (assign n x ∷ es) = wires_decide m es
wires_decide m (inst k ps n cs ∷ es) = wires_decide m es

-- ---- names

ports_are : (n : List ℕ) (ps : List Port) → count n (port_names ps) ≡ ports_count n ps
ports_are n [] = refl
ports_are n (p ∷ ps) = ap (λ (k : ℕ). one_if (bytes_eq p.name n) + k) (ports_are n ps)

entries_are : (n : List ℕ) (es : List Entry) → count n (entry_names es) ≡ entries_count n es
entries_are n [] = refl
entries_are n (wire w m ∷ es) = ap (λ (k : ℕ). one_if (bytes_eq m n) + k) (entries_are n es)
entries_are n (drive w m x ∷ es) = ap (λ (k : ℕ). one_if (bytes_eq m n) + k) (entries_are n es)
entries_are n (assign m x ∷ es) = entries_are n es
entries_are n (inst k ps m cs ∷ es) = ap (λ (k : ℕ). one_if (bytes_eq m n) + k) (entries_are n es)

names_are : (m : Module) (n : List ℕ) → count n (module_names m) ≡ ports_count n m.ports + entries_count n m.entries
names_are m n = omega (arith, count_both n (port_names m.ports) (entry_names m.entries), ports_are n m.ports, entries_are n m.entries)

all_ports : (m : Module) (ps : List Port) → list_all (is_port_once m) ps ≡ list_all (is_declared_once m) (port_names ps)
all_ports m [] = refl
all_ports m (p ∷ ps) = ap (λ (t : Bool). is_declared_once m p.name && t) (all_ports m ps)

all_entries : (m : Module) (es : List Entry) → list_all (is_entry_once m) es ≡ list_all (is_declared_once m) (entry_names es)
all_entries m [] = refl
all_entries m (wire w n ∷ es) = ap (λ (t : Bool). is_declared_once m n && t) (all_entries m es)
all_entries m (drive w n x ∷ es) = ap (λ (t : Bool). is_declared_once m n && t) (all_entries m es)
all_entries m (assign n x ∷ es) = all_entries m es
all_entries m (inst k ps n cs ∷ es) = ap (λ (t : Bool). is_declared_once m n && t) (all_entries m es)

-- The test decides whether no name is declared twice.
pub names_decide : (m : Module) → Decides (names_differ m) (Differ (module_names m))
unfolding names_differ is_declared_once
names_decide m =
    decided (names_differ m) (list_all (is_declared_once m) (module_names m))
    ((λ i. all_ports m m.ports i && all_entries m m.entries i) ∙ sym (all_both (is_declared_once m) (port_names m.ports) (entry_names m.entries)))
    (once_decides (is_declared_once m) (module_names m) (λ n. ap (λ (k : ℕ). ltb k 2) (sym (names_are m n))))

-- ---- names of connections

connected_are : (n : List ℕ) (cs : List Connection) → count n (connection_names cs) ≡ connected_count n cs
connected_are n [] = refl
connected_are n (c ∷ cs) = ap (λ (k : ℕ). one_if (bytes_eq c.name n) + k) (connected_are n cs)

-- the name is that of at most one connection
abbrev named_once : List Connection → List ℕ → Bool
named_once all n = ltb (connected_count n all) 2

all_connected : (all cs : List Connection) → list_all (is_connected_once all) cs ≡ list_all (named_once all) (connection_names cs)
all_connected all [] = refl
all_connected all (c ∷ cs) = ap (λ (t : Bool). named_once all c.name && t) (all_connected all cs)

-- The test decides whether the names of connections differ.
pub connections_decide : (cs : List Connection) → Decides (connections_differ cs) (Differ (connection_names cs))
unfolding connections_differ
connections_decide cs =
    decided (connections_differ cs) (list_all (named_once cs) (connection_names cs)) (all_connected cs cs)
    (once_decides (named_once cs) (connection_names cs) (λ n. ap (λ (k : ℕ). ltb k 2) (sym (connected_are n cs))))
