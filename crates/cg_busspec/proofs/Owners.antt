-- Whose a net is, where no name of the module stands twice.
use Rattle.std.proofs.Common.{◌≡◌, ℕ, eqb, Bool, true, false, cond, arith, inl, inr, List, [], ◌∷◌, ◌++◌, map, refl, ap, sym, subst, ◌∙◌, codes}
use Rattle.std.specs.Prelude.{flat_map}
use Rattle.cg_svspec.specs.Tree.{Port}
use Rattle.cg_svspec.specs.Names.{Among, Differ, is_among, port_names, entry_names}
use Rattle.cg_svspec.specs.Register.{input_port, output_port}
use Rattle.cg_svspec.specs.WellFormed.{inputs_of, outputs_of}
use Rattle.cg_svspec.proofs.NamesLemmas.{among_by_test, test_of_among, differ_front, differ_back, differ_across}
use Rattle.cg_busspec.specs.Crossbar.{Crossbar, hosts, devices, label, reach, is_joined, has_fifo}
use Rattle.cg_busspec.specs.CrossbarModule.{h_link, f_link, l_link, m_link, d_link, clocks, clock_port, host_ports, device_ports, crossbar_ports, link_wires, entries_if, host_wires, lane_wires, host_lanes, device_wires, crossbar_wires, crossbar_selects, crossbar_parts, crossbar_entries}
use Rattle.cg_busspec.proofs.NumberLists.{among_flat, owner, inner_differ, port_names_join, port_names_flat, entry_names_join, entry_names_flat, output_is_port, input_no_output, WireIn, wire_front, wire_named}
use Rattle.cg_busspec.proofs.PartWays.{fails}
use Rattle.cg_busspec.proofs.Places.{NamesDiffer, host_port_in, device_port_in, host_wire_in, lane_wire_in, device_wire_in}

-- ---- names by their first byte

-- the first byte of a name
abbrev pub first_byte : List ℕ → ℕ
first_byte [] = 0
first_byte (c ∷ cs) = c

-- names with different first bytes differ
pub clash : (m n : List ℕ) → (eqb (first_byte m) (first_byte n) ≡ false) → m ≡ n → ⊥
clash m n h e = itself (first_byte n) (subst (λ z. eqb (first_byte z) (first_byte n) ≡ false) e h) where
  itself : (c : ℕ) → eqb c c ≡ false → ⊥
  itself c u = grind arith

-- ---- the parts of the names

-- the names of ports differ
pub ports_differ : (x : Crossbar) → NamesDiffer x → Differ (port_names (crossbar_ports x.desc))
ports_differ x d = differ_front (port_names (crossbar_ports x.desc)) (entry_names (crossbar_entries x)) d

-- those of the nodes' ports
node_ports_differ : (x : Crossbar) → NamesDiffer x
    → Differ (flat_map (λ h. port_names (host_ports x.desc h)) (hosts x.desc) ++ flat_map (λ d. port_names (device_ports x.desc d)) (devices x.desc))
unfolding crossbar_ports
node_ports_differ x d =
    let both : port_names (flat_map (host_ports x.desc) (hosts x.desc) ++ flat_map (device_ports x.desc) (devices x.desc))
    ≡ flat_map (λ h. port_names (host_ports x.desc h)) (hosts x.desc) ++ flat_map (λ d. port_names (device_ports x.desc d)) (devices x.desc) =
    port_names_join (flat_map (host_ports x.desc) (hosts x.desc)) (flat_map (device_ports x.desc) (devices x.desc))
    ∙ ap (λ z. z ++ port_names (flat_map (device_ports x.desc) (devices x.desc))) (port_names_flat (host_ports x.desc) (hosts x.desc))
    ∙ ap (λ z. flat_map (λ h. port_names (host_ports x.desc h)) (hosts x.desc) ++ z) (port_names_flat (device_ports x.desc) (devices x.desc)) in
    subst Differ both (differ_back (port_names (map clock_port (clocks x.desc))) _
    (subst Differ (port_names_join (map clock_port (clocks x.desc)) (flat_map (host_ports x.desc) (hosts x.desc) ++ flat_map (device_ports x.desc) (devices x.desc))) (ports_differ x d)))

-- and of the links to M-to-1 sockets
lanes_differ : (x : Crossbar) → NamesDiffer x → Differ (flat_map (λ h. entry_names (host_lanes x.desc h)) (hosts x.desc))
unfolding crossbar_entries
lanes_differ x d =
    let entries = differ_back (port_names (crossbar_ports x.desc)) (entry_names (crossbar_entries x)) d in
    let wires = differ_front (entry_names (crossbar_wires x.desc)) (entry_names (crossbar_selects x ++ crossbar_parts x.desc)) (subst Differ (entry_names_join (crossbar_wires x.desc) (crossbar_selects x ++ crossbar_parts x.desc)) entries) in
    let later = differ_back (entry_names (flat_map (host_wires x.desc) (hosts x.desc))) (entry_names (flat_map (host_lanes x.desc) (hosts x.desc) ++ flat_map (device_wires x.desc) (devices x.desc)))
    (subst Differ (entry_names_join (flat_map (host_wires x.desc) (hosts x.desc)) (flat_map (host_lanes x.desc) (hosts x.desc) ++ flat_map (device_wires x.desc) (devices x.desc))) wires) in
    let first = differ_front (entry_names (flat_map (host_lanes x.desc) (hosts x.desc))) (entry_names (flat_map (device_wires x.desc) (devices x.desc)))
    (subst Differ (entry_names_join (flat_map (host_lanes x.desc) (hosts x.desc)) (flat_map (device_wires x.desc) (devices x.desc))) later) in
    subst Differ (entry_names_flat (host_lanes x.desc) (hosts x.desc)) first

-- ---- hosts, devices and pairs by their names

-- hosts of one name in nets are one
pub same_host : (x : Crossbar) → NamesDiffer x → (h g : ℕ) → Among h (hosts x.desc) → Among g (hosts x.desc) → label x.desc h ++ codes "_req" ≡ label x.desc g ++ codes "_req" → h ≡ g
same_host x d h g i j e =
    owner (λ h. port_names (host_ports x.desc h)) (hosts x.desc) (differ_front _ (flat_map (λ d. port_names (device_ports x.desc d)) (devices x.desc)) (node_ports_differ x d)) h g (h_link x.desc h).request i j
    (inl refl) (inl (ap (λ z. codes "h_" ++ z) e))

-- so are devices
pub same_device : (x : Crossbar) → NamesDiffer x → (d e : ℕ) → Among d (devices x.desc) → Among e (devices x.desc) → label x.desc d ++ codes "_req" ≡ label x.desc e ++ codes "_req" → d ≡ e
same_device x n d e i j same =
    owner (λ d. port_names (device_ports x.desc d)) (devices x.desc) (differ_back (flat_map (λ h. port_names (host_ports x.desc h)) (hosts x.desc)) _ (node_ports_differ x n)) d e (d_link x.desc d).request i j
    (inl refl) (inl (ap (λ z. codes "d_" ++ z) same))

-- a lane's wire is among its host's
lane_named : (x : Crossbar) (h d : ℕ) → is_joined x.desc d ≡ true → Among (l_link x.desc h d).request (entry_names (lane_wires x.desc h d))
lane_named x h d e = subst (λ z. Among (l_link x.desc h d).request (entry_names (entries_if z (link_wires (l_link x.desc h d))))) (sym e) (inl refl)

-- as of all its lanes
lane_of_host : (x : Crossbar) (h d : ℕ) → Among d (reach x.desc h) → is_joined x.desc d ≡ true → Among (l_link x.desc h d).request (entry_names (host_lanes x.desc h))
lane_of_host x h d j e =
    subst (Among (l_link x.desc h d).request) (sym (entry_names_flat (lane_wires x.desc h) (reach x.desc h)))
    (among_flat (λ d. entry_names (lane_wires x.desc h d)) (reach x.desc h) d (l_link x.desc h d).request j (lane_named x h d e))

-- links of one name to M-to-1 sockets lead to one device
pub same_lane : (x : Crossbar) → NamesDiffer x → (h d g e : ℕ) → Among h (hosts x.desc) → Among d (reach x.desc h) → is_joined x.desc d ≡ true → Among g (hosts x.desc) → Among e (reach x.desc g) → is_joined x.desc e ≡ true
    → (l_link x.desc h d).request ≡ (l_link x.desc g e).request → d ≡ e
same_lane x n h d g e i j t k m u same =
    let host : h ≡ g = owner (λ h. entry_names (host_lanes x.desc h)) (hosts x.desc) (lanes_differ x n) h g (l_link x.desc h d).request i k (lane_of_host x h d j t)
    (subst (λ z. Among z (entry_names (host_lanes x.desc g))) (sym same) (lane_of_host x g e m u)) in
    let inner = subst Differ (entry_names_flat (lane_wires x.desc h) (reach x.desc h)) (inner_differ (λ h. entry_names (host_lanes x.desc h)) (hosts x.desc) (lanes_differ x n) h i) in
    owner (λ d. entry_names (lane_wires x.desc h d)) (reach x.desc h) inner d e (l_link x.desc h d).request j (subst (λ z. Among e (reach x.desc z)) (sym host) m) (lane_named x h d t)
    (subst (λ z. Among z (entry_names (lane_wires x.desc h e))) (sym (same ∙ ap (λ z. (l_link x.desc z e).request) (sym host))) (lane_named x h e u))

-- ---- which nets are outputs

-- an input port is an input
pub input_among : (p : Port) (ps : List Port) → Among p ps → p.input ≡ true → Among p.name (inputs_of ps)
input_among p [] h e = absurd h
input_among p (q ∷ qs) (inl s) e = subst (λ b. Among p.name (cond b (q.name ∷ inputs_of qs) (inputs_of qs))) (sym e ∙ ap (λ z. z.input) s) (inl (ap (λ z. z.name) s))
input_among p (q ∷ qs) (inr h) e = by (input_among p qs h e) q.input where
  by : Among p.name (inputs_of qs) → (b : Bool) → Among p.name (cond b (q.name ∷ inputs_of qs) (inputs_of qs))
  by a true = inr a
  by a false = a

-- an output port is an output
pub output_among : (p : Port) (ps : List Port) → Among p ps → p.input ≡ false → Among p.name (outputs_of ps)
output_among p [] h e = absurd h
output_among p (q ∷ qs) (inl s) e = subst (λ b. Among p.name (cond b (outputs_of qs) (q.name ∷ outputs_of qs))) (sym e ∙ ap (λ z. z.input) s) (inl (ap (λ z. z.name) s))
output_among p (q ∷ qs) (inr h) e = by (output_among p qs h e) q.input where
  by : Among p.name (outputs_of qs) → (b : Bool) → Among p.name (cond b (outputs_of qs) (q.name ∷ outputs_of qs))
  by a false = inr a
  by a true = a

-- the net is an output port
abbrev pub is_output_net : Crossbar → List ℕ → Bool
is_output_net x n = is_among (outputs_of (crossbar_ports x.desc)) n

-- a host's request is none
pub h_no_output : (x : Crossbar) → NamesDiffer x → (h : ℕ) → Among h (hosts x.desc) → is_output_net x (h_link x.desc h).request ≡ false
h_no_output x d h i = fails _ (λ e. input_no_output (crossbar_ports x.desc) (h_link x.desc h).request (ports_differ x d)
    (input_among (input_port 70 (h_link x.desc h).request) (crossbar_ports x.desc) (host_port_in x h _ i (inl refl)) refl) (among_by_test (outputs_of (crossbar_ports x.desc)) _ e))

-- a device's request is one
pub d_is_output : (x : Crossbar) (d : ℕ) → Among d (devices x.desc) → is_output_net x (d_link x.desc d).request ≡ true
d_is_output x d i = test_of_among (outputs_of (crossbar_ports x.desc)) _ (output_among (output_port 70 (d_link x.desc d).request) (crossbar_ports x.desc) (device_port_in x d _ i (inl refl)) refl)

-- a wire is none
wire_no_output : (x : Crossbar) → NamesDiffer x → (w : ℕ) (n : List ℕ) → WireIn w n (crossbar_wires x.desc) → is_output_net x n ≡ false
unfolding crossbar_entries
wire_no_output x d w n h = fails _ (λ e. differ_across n (port_names (crossbar_ports x.desc)) (entry_names (crossbar_entries x)) d
    (output_is_port (crossbar_ports x.desc) n (among_by_test (outputs_of (crossbar_ports x.desc)) n e))
    (wire_named w n (crossbar_entries x) (wire_front w n (crossbar_wires x.desc) (crossbar_selects x ++ crossbar_parts x.desc) h)))

-- so is that behind a host's FIFO
pub f_no_output : (x : Crossbar) → NamesDiffer x → (h : ℕ) → Among h (hosts x.desc) → has_fifo x.desc h ≡ true → is_output_net x (f_link x.desc h).request ≡ false
f_no_output x d h i e = wire_no_output x d 70 _ (host_wire_in x h 70 _ i (subst (λ z. WireIn 70 (f_link x.desc h).request (entries_if z (link_wires (f_link x.desc h)))) (sym e) (inl (refl, refl))))

-- that to an M-to-1 socket
pub l_no_output : (x : Crossbar) → NamesDiffer x → (h d : ℕ) → Among h (hosts x.desc) → Among d (reach x.desc h) → is_joined x.desc d ≡ true → is_output_net x (l_link x.desc h d).request ≡ false
l_no_output x n h d i j e = wire_no_output x n 70 _ (lane_wire_in x h d 70 _ i j (subst (λ z. WireIn 70 (l_link x.desc h d).request (entries_if z (link_wires (l_link x.desc h d)))) (sym e) (inl (refl, refl))))

-- and that before a device's FIFO
pub m_no_output : (x : Crossbar) → NamesDiffer x → (d : ℕ) → Among d (devices x.desc) → has_fifo x.desc d ≡ true → is_output_net x (m_link x.desc d).request ≡ false
m_no_output x n d i e = wire_no_output x n 70 _ (device_wire_in x d 70 _ i (subst (λ z. WireIn 70 (m_link x.desc d).request (entries_if z (link_wires (m_link x.desc d)))) (sym e) (inl (refl, refl))))
