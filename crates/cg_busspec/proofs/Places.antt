-- The nets of a crossbar's module: which are declared, which are ports, and whose they are.
use Rattle.std.proofs.Common.{◌≡◌, ℕ, eqb, Bool, true, false, cond, arith, ◌||◌, inl, inr, List, [], ◌∷◌, ◌++◌, map, refl, ap, sym, subst, ◌∙◌}
use Rattle.std.specs.Prelude.{flat_map, filter}
use Rattle.std.proofs.lemmas.Bool.{eqb-true}
use Rattle.cg_svspec.specs.Tree.{Port, Entry}
use Rattle.cg_svspec.specs.Names.{Differ, port_names, entry_names, module_names, Among}
use Rattle.cg_svspec.specs.Register.{input_port, output_port}
use Rattle.cg_svspec.specs.WellFormed.{Net, Declares, port_nets}
use Rattle.cg_svspec.specs.Links.{Link, nets_of, wire_nets}
use Rattle.cg_svspec.proofs.NamesLemmas.{among_front, among_back}
use Rattle.cg_desc.specs.declared.crossbar.XbarDesc.{XbarDesc}
use Rattle.cg_busspec.specs.Crossbar.{Crossbar, hosts, devices, reach, feeders, is_in, is_joined, has_fifo}
use Rattle.cg_busspec.proofs.Good.{IsCrossbar}
use Rattle.cg_busspec.specs.CrossbarModule.{h_link, f_link, l_link, m_link, d_link, socket_link, joined_link, lane, clocks, clock_port, host_ports, device_ports, crossbar_ports, link_wires, entries_if, host_wires, lane_wires, host_lanes, device_wires, join_lanes, crossbar_wires, crossbar_selects, crossbar_parts, crossbar_entries, crossbar_module}
use Rattle.cg_busspec.proofs.NumberLists.{among_flat, port_declared, WireIn, wire_front, wire_back, wire_flat, wire_declared, declares_back}
use Rattle.cg_busspec.proofs.PartWays.{LinksDeclared}

-- all nets of the module
abbrev pub all_nets : Crossbar → List Net
all_nets x = nets_of (crossbar_module x)

-- no name of the module stands twice
abbrev pub NamesDiffer : Crossbar → Type 0
NamesDiffer x = Differ (port_names (crossbar_ports x.desc) ++ entry_names (crossbar_entries x))

-- as a fact of ports and entries
pub names_differ : (x : Crossbar) → Differ (module_names (crossbar_module x)) → NamesDiffer x
unfolding crossbar_module
names_differ x d = d

-- ---- declared nets

-- a port is declared
pub port_is_declared : (x : Crossbar) (p : Port) → Among p (crossbar_ports x.desc) → Declares (all_nets x) p.name p.width
unfolding crossbar_module
port_is_declared x p h = port_declared p (crossbar_ports x.desc) (wire_nets (crossbar_entries x)) h

-- a wire is declared
pub wire_is_declared : (x : Crossbar) (w : ℕ) (n : List ℕ) → WireIn w n (crossbar_wires x.desc) → Declares (all_nets x) n w
unfolding crossbar_module crossbar_entries
wire_is_declared x w n h =
    declares_back (port_nets (crossbar_ports x.desc)) (wire_nets (crossbar_entries x)) n w
    (wire_declared w n (crossbar_entries x) (wire_front w n (crossbar_wires x.desc) (crossbar_selects x ++ crossbar_parts x.desc) h))

-- a host's port is a port
pub host_port_in : (x : Crossbar) (h : ℕ) (p : Port) → Among h (hosts x.desc) → Among p (host_ports x.desc h) → Among p (crossbar_ports x.desc)
unfolding crossbar_ports
host_port_in x h p i a =
    among_back p (map clock_port (clocks x.desc)) (flat_map (host_ports x.desc) (hosts x.desc) ++ flat_map (device_ports x.desc) (devices x.desc))
    (among_front p (flat_map (host_ports x.desc) (hosts x.desc)) (flat_map (device_ports x.desc) (devices x.desc)) (among_flat (host_ports x.desc) (hosts x.desc) h p i a))

-- a device's port is a port
pub device_port_in : (x : Crossbar) (d : ℕ) (p : Port) → Among d (devices x.desc) → Among p (device_ports x.desc d) → Among p (crossbar_ports x.desc)
unfolding crossbar_ports
device_port_in x d p i a =
    among_back p (map clock_port (clocks x.desc)) (flat_map (host_ports x.desc) (hosts x.desc) ++ flat_map (device_ports x.desc) (devices x.desc))
    (among_back p (flat_map (host_ports x.desc) (hosts x.desc)) (flat_map (device_ports x.desc) (devices x.desc)) (among_flat (device_ports x.desc) (devices x.desc) d p i a))

-- a wire of a host, of a pair, of a device
pub host_wire_in : (x : Crossbar) (h w : ℕ) (n : List ℕ) → Among h (hosts x.desc) → WireIn w n (host_wires x.desc h) → WireIn w n (crossbar_wires x.desc)
host_wire_in x h w n i a = wire_front w n (flat_map (host_wires x.desc) (hosts x.desc)) _ (wire_flat (host_wires x.desc) (hosts x.desc) h w n i a)

-- of a pair
pub lane_wire_in : (x : Crossbar) (h d w : ℕ) (n : List ℕ) → Among h (hosts x.desc) → Among d (reach x.desc h) → WireIn w n (lane_wires x.desc h d) → WireIn w n (crossbar_wires x.desc)
lane_wire_in x h d w n i j a =
    wire_back w n (flat_map (host_wires x.desc) (hosts x.desc)) _ (wire_front w n (flat_map (host_lanes x.desc) (hosts x.desc)) (flat_map (device_wires x.desc) (devices x.desc))
    (wire_flat (host_lanes x.desc) (hosts x.desc) h w n i (wire_flat (lane_wires x.desc h) (reach x.desc h) d w n j a)))

-- of a device
pub device_wire_in : (x : Crossbar) (d w : ℕ) (n : List ℕ) → Among d (devices x.desc) → WireIn w n (device_wires x.desc d) → WireIn w n (crossbar_wires x.desc)
device_wire_in x d w n i a =
    wire_back w n (flat_map (host_wires x.desc) (hosts x.desc)) _ (wire_back w n (flat_map (host_lanes x.desc) (hosts x.desc)) (flat_map (device_wires x.desc) (devices x.desc))
    (wire_flat (device_wires x.desc) (devices x.desc) d w n i a))

-- wires where the test holds
pub if_wires : (b : Bool) (w : ℕ) (n : List ℕ) (es : List Entry) → b ≡ true → WireIn w n es → WireIn w n (entries_if b es)
if_wires b w n es e h = subst (λ z. WireIn w n (entries_if z es)) (sym e) h

-- ---- declared links

-- a host's link is declared
pub h_declared : (x : Crossbar) (h : ℕ) → Among h (hosts x.desc) → LinksDeclared (all_nets x) (h_link x.desc h ∷ [])
h_declared x h i = record {
  requests_are = (port_is_declared x (input_port 70 (h_link x.desc h).request) (host_port_in x h _ i (inl refl)), tt);
  responses_are = (port_is_declared x (output_port 33 (h_link x.desc h).response) (host_port_in x h _ i (inr (inl refl))), tt);
}

-- a device's link
pub d_declared : (x : Crossbar) (d : ℕ) → Among d (devices x.desc) → LinksDeclared (all_nets x) (d_link x.desc d ∷ [])
d_declared x d i = record {
  requests_are = (port_is_declared x (output_port 70 (d_link x.desc d).request) (device_port_in x d _ i (inl refl)), tt);
  responses_are = (port_is_declared x (input_port 33 (d_link x.desc d).response) (device_port_in x d _ i (inr (inl refl))), tt);
}

-- the link behind a host's FIFO
pub f_declared : (x : Crossbar) (h : ℕ) → Among h (hosts x.desc) → has_fifo x.desc h ≡ true → LinksDeclared (all_nets x) (f_link x.desc h ∷ [])
f_declared x h i e = record {
  requests_are = (wire_is_declared x 70 (f_link x.desc h).request (host_wire_in x h 70 _ i (if_wires (has_fifo x.desc h) 70 _ (link_wires (f_link x.desc h)) e (inl (refl, refl)))), tt);
  responses_are = (wire_is_declared x 33 (f_link x.desc h).response (host_wire_in x h 33 _ i (if_wires (has_fifo x.desc h) 33 _ (link_wires (f_link x.desc h)) e (inr (inl (refl, refl))))), tt);
}

-- the link before a device's FIFO
pub m_declared : (x : Crossbar) (d : ℕ) → Among d (devices x.desc) → has_fifo x.desc d ≡ true → LinksDeclared (all_nets x) (m_link x.desc d ∷ [])
m_declared x d i e = record {
  requests_are = (wire_is_declared x 70 (m_link x.desc d).request (device_wire_in x d 70 _ i (if_wires (has_fifo x.desc d) 70 _ (link_wires (m_link x.desc d)) e (inl (refl, refl)))), tt);
  responses_are = (wire_is_declared x 33 (m_link x.desc d).response (device_wire_in x d 33 _ i (if_wires (has_fifo x.desc d) 33 _ (link_wires (m_link x.desc d)) e (inr (inl (refl, refl))))), tt);
}

-- the link to an M-to-1 socket
pub l_declared : (x : Crossbar) (h d : ℕ) → Among h (hosts x.desc) → Among d (reach x.desc h) → is_joined x.desc d ≡ true → LinksDeclared (all_nets x) (l_link x.desc h d ∷ [])
l_declared x h d i j e = record {
  requests_are = (wire_is_declared x 70 (l_link x.desc h d).request (lane_wire_in x h d 70 _ i j (if_wires (is_joined x.desc d) 70 _ (link_wires (l_link x.desc h d)) e (inl (refl, refl)))), tt);
  responses_are = (wire_is_declared x 33 (l_link x.desc h d).response (lane_wire_in x h d 33 _ i j (if_wires (is_joined x.desc d) 33 _ (link_wires (l_link x.desc h d)) e (inr (inl (refl, refl))))), tt);
}

-- a link that a test chooses
chosen_declared : (x : Crossbar) (b : Bool) (l k : Link) → (b ≡ true → LinksDeclared (all_nets x) (l ∷ [])) → (b ≡ false → LinksDeclared (all_nets x) (k ∷ []))
    → LinksDeclared (all_nets x) (cond b l k ∷ [])
chosen_declared x true l k a b = a refl
chosen_declared x false l k a b = b refl

-- the link at a host's socket
pub socket_declared : (x : Crossbar) (h : ℕ) → Among h (hosts x.desc) → LinksDeclared (all_nets x) (socket_link x.desc h ∷ [])
unfolding socket_link
socket_declared x h i = chosen_declared x (has_fifo x.desc h) (f_link x.desc h) (h_link x.desc h) (f_declared x h i) (λ e. h_declared x h i)

-- a device's first link behind its M-to-1 socket
pub device_declared : (x : Crossbar) (d : ℕ) → Among d (devices x.desc) → LinksDeclared (all_nets x) (joined_link x.desc d ∷ [])
unfolding joined_link
device_declared x d i = chosen_declared x (has_fifo x.desc d) (m_link x.desc d) (d_link x.desc d) (m_declared x d i) (λ e. d_declared x d i)

-- a link behind a host's socket
pub lane_declared : (x : Crossbar) → IsCrossbar x → (h d : ℕ) → Among h (hosts x.desc) → Among d (reach x.desc h) → LinksDeclared (all_nets x) (lane x.desc h d ∷ [])
unfolding lane
lane_declared x g h d i j = chosen_declared x (is_joined x.desc d) (l_link x.desc h d) (joined_link x.desc d) (l_declared x h d i j) (λ e. device_declared x d (g.reaches h d i j))

-- several links
pub links_declared : (nets : List Net) (f : ℕ → Link) (is : List ℕ) → ((i : ℕ) → Among i is → LinksDeclared nets (f i ∷ [])) → LinksDeclared nets (map f is)
links_declared nets f [] a = record { requests_are = tt; responses_are = tt }
links_declared nets f (i ∷ is) a =
    let first = a i (inl refl) in
    let rest = links_declared nets f is (λ j h. a j (inr h)) in
    record { requests_are = (first.requests_are.0, rest.requests_are); responses_are = (first.responses_are.0, rest.responses_are) }

-- the hosts of a device
pub in_by_test : (js : List ℕ) (i : ℕ) → is_in js i ≡ true → Among i js
in_by_test [] i e = cc
in_by_test (j ∷ js) i e = by (in_by_test js i) (eqb j i) refl e where
  by : (is_in js i ≡ true → Among i js) → (b : Bool) → eqb j i ≡ b → (b || is_in js i) ≡ true → Among i (j ∷ js)
  by later true same e = inl (sym (eqb-true j i same))
  by later false same e = inr (later e)

-- and finds each that is
pub test_of_in : (js : List ℕ) (i : ℕ) → Among i js → is_in js i ≡ true
test_of_in [] i h = absurd h
test_of_in (j ∷ js) i (inl e) = rw e (same j) where
  same : (j : ℕ) → (eqb j j || is_in js j) ≡ true
  same j = grind arith
test_of_in (j ∷ js) i (inr h) = rw (test_of_in js i h) (either (eqb j i)) where
  either : (b : Bool) → (b || true) ≡ true
  either true = refl
  either false = refl

-- what passes a test is a member that passes
pub in_filter : (p : ℕ → Bool) (is : List ℕ) (i : ℕ) → Among i (filter p is) → Among i is × (p i ≡ true)
in_filter p [] i h = absurd h
in_filter p (j ∷ js) i h = by (in_filter p js i) (p j) refl h where
  by : (Among i (filter p js) → Among i js × (p i ≡ true)) → (b : Bool) → p j ≡ b → Among i (cond b (j ∷ filter p js) (filter p js)) → Among i (j ∷ js) × (p i ≡ true)
  by later true e (inl s) = (inl s, ap p s ∙ e)
  by later true e (inr h) = let r = later h in (inr r.0, r.1)
  by later false e h = let r = later h in (inr r.0, r.1)

-- and back
filter_has : (p : ℕ → Bool) (is : List ℕ) (i : ℕ) → Among i is → p i ≡ true → Among i (filter p is)
filter_has p [] i h e = absurd h
filter_has p (j ∷ js) i h e = by (λ g. filter_has p js i g e) (p j) refl h where
  by : (Among i js → Among i (filter p js)) → (b : Bool) → p j ≡ b → Among i (j ∷ js) → Among i (cond b (j ∷ filter p js) (filter p js))
  by later true t (inl s) = inl s
  by later true t (inr h) = inr (later h)
  by later false t (inl s) = let u : true ≡ false = sym e ∙ ap p s ∙ t in cc
  by later false t (inr h) = later h

-- a host that connects to a device is a host and has the device
pub feeder_is : (x : XbarDesc) (h d : ℕ) → Among h (feeders x d) → Among h (hosts x) × Among d (reach x h)
unfolding feeders
feeder_is x h d i = let both = in_filter (λ h. is_in (reach x h) d) (hosts x) h i in (both.0, in_by_test (reach x h) d both.1)

-- and back
pub feeder_has : (x : XbarDesc) (h d : ℕ) → Among h (hosts x) → Among d (reach x h) → Among h (feeders x d)
unfolding feeders
feeder_has x h d i j = filter_has (λ h. is_in (reach x h) d) (hosts x) h i (test_of_in (reach x h) d j)

-- the links to a device's M-to-1 socket
pub join_declared : (x : Crossbar) (d : ℕ) → is_joined x.desc d ≡ true → LinksDeclared (all_nets x) (join_lanes x.desc d)
join_declared x d e = links_declared (all_nets x) (λ h. l_link x.desc h d) (feeders x.desc d) (λ h i. let both = feeder_is x.desc h d i in l_declared x h d both.0 both.1 e)
