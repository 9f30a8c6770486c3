-- Where a host's requests come in.
use Rattle.std.proofs.Common.{Bool, List, None, Option, Some, [], ap, arith, codes, cond, false, filter, flat_map, inl, inr, length, map, not, refl, subst, suc, sym, true, ℕ, ◌&&◌, ◌++◌, ◌+◌, ◌-◌, ◌<◌, ◌||◌, ◌∙◌, ◌∷◌, ◌≡◌, ◌⊎◌}
use Rattle.std.proofs.lemmas.List.{length-map}
use Rattle.cg_busspec.specs.CrossbarModule.{connection}
use Rattle.cg_desc.specs.Reach.{IsPlain}
use Rattle.cg_desc.specs.declared.top.NodeEnd.{NodeEnd}
use Rattle.cg_desc.specs.declared.top.NodeEnd.TheVariants.{Face, Host, Outside, Xbar}
use Rattle.cg_svspec.proofs.NamesLemmas.{among_by_test, among_parts}
use Rattle.cg_svspec.specs.Links.{Link, comes_in, device_link, host_link, is_device_request, is_host_request, spelled}
use Rattle.cg_svspec.specs.Names.{Among, is_among, port_names}
use Rattle.cg_svspec.specs.Register.{input_port, output_port}
use Rattle.cg_svspec.specs.Tree.{Connection, Entry, Expression, Module, Parameter, Port, assign, drive, inst, net, wire}
use Rattle.cg_svspec.specs.Value.{connection_at}
use Rattle.cg_svspec.specs.Walk.{Next, alone, comes_from_crossbar, ends, error, host_crossbar, is_bare, is_device_net, is_host_net, is_some_module, is_some_net, module_named, on, position, start, start_or, within}
use Rattle.cg_svspec.specs.WellFormed.{inputs_of}
use Rattle.cg_topspec.proofs.Arrivals.{bare_itself, bare_none, counting_length, found_connection, not_bare}
use Rattle.cg_topspec.proofs.Built.{Built, HasCrossbars, IsDevice, IsHost, IsJoined, IsNode, NamesApart, crossbar_connections, crossbar_entry, instance_connections, instance_entry, top_entries, top_module, top_nets, top_ports}
use Rattle.cg_topspec.proofs.Entries.{nets_all}
use Rattle.cg_topspec.proofs.ListLemmas.{from_counting, from_each, from_map, in_back, in_counting, in_each, in_map, in_parts}
use Rattle.cg_topspec.proofs.Nets.{HasLink, clock_part, device_has_link, from_those, no_own_response, no_response, one_request, port_part, ports_are, reset_part, source_part}
use Rattle.cg_topspec.proofs.Nodes.{node_in_range, node_of_all, node_xbar}
use Rattle.cg_topspec.proofs.Texts.{ends_itself}
use Rattle.cg_topspec.proofs.TopConnections.{net_same, outer_device_is, own_by}
use Rattle.cg_topspec.proofs.TopLinks.{numbered_split}
use Rattle.cg_topspec.proofs.TopNets.{crossbar_number, device_link_is, device_port_is, host_port_is, node_among, node_connected}
use Rattle.cg_topspec.proofs.Whole.{entries_of_top, names_of_top, ports_of_top}
use Rattle.cg_topspec.specs.Nets.{clock_net, joined_link, link_of, or_own, own_link, reset_net}
use Rattle.cg_topspec.specs.Top.{NodeId, block_of, counting, crossbar_of, end_of, instance_of, is_host, node_of, nodes_in, ordered, ordered_in}
use Rattle.cg_topspec.specs.TopModule.{address_width, crossbar_clock, crossbar_module_name, crossbar_ties, end_ports, is_listed, node_connections, pin_ports, port_link, vector_port}

-- ---- no port of the top module is a host's of one crossbar

-- a name that does not begin with h
pub record NoH (n : List ℕ) : Type 0 where
  pub letter : ℕ
  pub rest : List ℕ
  pub name_is : n ≡ letter ∷ rest
  pub no_h : letter ≡ 104 → ⊥

port_parts : (n : List ℕ) (ps qs : List Port) → Among n (port_names (ps ++ qs)) → Among n (port_names ps) ⊎ Among n (port_names qs)
port_parts n [] qs a = inr a
port_parts n (p ∷ ps) qs (inl e) = inl (inl e)
port_parts n (p ∷ ps) qs (inr a) = up (port_parts n ps qs a) where
  up : Among n (port_names ps) ⊎ Among n (port_names qs) → Among n (p.name ∷ port_names ps) ⊎ Among n (port_names qs)
  up (inl b) = inl (inr b)
  up (inr b) = inr b

pub input_is_port : (ps : List Port) (n : List ℕ) → Among n (inputs_of ps) → Among n (port_names ps)
input_is_port [] n a = a
input_is_port (p ∷ ps) n a = by p.input (input_is_port ps n) a where
  by : (b : Bool) → (Among n (inputs_of ps) → Among n (port_names ps)) → Among n (cond b (p.name ∷ inputs_of ps) (inputs_of ps)) → Among n (p.name ∷ port_names ps)
  by true f (inl e) = inl e
  by true f (inr h) = inr (f h)
  by false f h = inr (f h)

mapped_ports : (f : List ℕ → Port) (xs : List (List ℕ)) (n : List ℕ) → ((x : List ℕ) → NoH (f x).name) → Among n (port_names (map f xs)) → NoH n
mapped_ports f [] n h a = absurd a
mapped_ports f (x ∷ xs) n h (inl e) = subst NoH (sym e) (h x)
mapped_ports f (x ∷ xs) n h (inr a) = mapped_ports f xs n h a

own_no_h : (top : Built) (m : NodeId) → NoH (own_link top.merged m).request × NoH (own_link top.merged m).response
unfolding own_link
own_no_h top m = (record { letter = 120; rest = _; name_is = refl; no_h = λ e. omega (arith, e) }, record { letter = 120; rest = _; name_is = refl; no_h = λ e. omega (arith, e) })

end_ports_no_h : (host : Bool) (l : Link) (e : NodeEnd) (n : List ℕ) → NoH l.request → NoH l.response → Among n (port_names (end_ports host l e)) → NoH n
end_ports_no_h true l Outside n q r (inl e) = subst NoH (sym e) q
end_ports_no_h true l Outside n q r (inr (inl e)) = subst NoH (sym e) r
end_ports_no_h true l Outside n q r (inr (inr e)) = absurd e
end_ports_no_h false l Outside n q r (inl e) = subst NoH (sym e) q
end_ports_no_h false l Outside n q r (inr (inl e)) = subst NoH (sym e) r
end_ports_no_h false l Outside n q r (inr (inr e)) = absurd e
end_ports_no_h true l (Face i f) n q r a = absurd a
end_ports_no_h false l (Face i f) n q r a = absurd a
end_ports_no_h true l (Host i f) n q r a = absurd a
end_ports_no_h false l (Host i f) n q r a = absurd a
end_ports_no_h true l (Xbar x) n q r a = absurd a
end_ports_no_h false l (Xbar x) n q r a = absurd a

nodes_no_h : (top : Built) (xs : List NodeId) (n : List ℕ) → Among n (flat_map (port_part top) xs) → NoH n
nodes_no_h top [] n a = absurd a
nodes_no_h top (m ∷ ms) n a = by (nodes_no_h top ms n) (among_parts n (port_part top m) _ a) where
  by : (Among n (flat_map (port_part top) ms) → NoH n) → Among n (port_part top m) ⊎ Among n (flat_map (port_part top) ms) → NoH n
  by again (inl b) = let h = own_no_h top m in end_ports_no_h (is_host top.merged m) (own_link top.merged m) (end_of top.merged m) n h.0 h.1 b
  by again (inr b) = again b

vector_no_h : {A : Type 0} (port : ℕ → List ℕ → Port) → ((w : ℕ) (n : List ℕ) → (port w n).name ≡ n) → (name : List ℕ) → NoH name → (xs : List A) (n : List ℕ)
    → Among n (port_names (vector_port port name xs)) → NoH n
vector_no_h port named name no_h [] n a = absurd a
vector_no_h port named name no_h (x ∷ xs) n (inl e) = subst NoH (sym (e ∙ named _ name)) no_h
vector_no_h port named name no_h (x ∷ xs) n (inr a) = absurd a

letter_no_h : (letter : ℕ) (rest : List ℕ) → (letter ≡ 104 → ⊥) → NoH (letter ∷ rest)
letter_no_h letter rest h = record { letter = letter; rest = rest; name_is = refl; no_h = h }

pins_no_h : (top : Built) (n : List ℕ) → Among n (port_names (pin_ports top.merged top.pins)) → NoH n
pins_no_h top n a = first (port_parts n (vector_port input_port (codes "mio_in") top.pins.ins) _ a) where
  pads : Among n (port_names (vector_port input_port (codes "pad_in") top.merged.top.pads)) ⊎ Among n (port_names (vector_port output_port (codes "pad_out") top.merged.top.pads)) → NoH n
  pads (inl b) = vector_no_h input_port (λ w m. refl) (codes "pad_in") (letter_no_h 112 _ (λ e. omega (arith, e))) top.merged.top.pads n b
  pads (inr b) = vector_no_h output_port (λ w m. refl) (codes "pad_out") (letter_no_h 112 _ (λ e. omega (arith, e))) top.merged.top.pads n b

  outs : Among n (port_names (vector_port output_port (codes "mio_out") top.pins.outs))
      ⊎ Among n (port_names (vector_port input_port (codes "pad_in") top.merged.top.pads ++ vector_port output_port (codes "pad_out") top.merged.top.pads)) → NoH n
  outs (inl b) = vector_no_h output_port (λ w m. refl) (codes "mio_out") (letter_no_h 109 _ (λ e. omega (arith, e))) top.pins.outs n b
  outs (inr b) = pads (port_parts n (vector_port input_port (codes "pad_in") top.merged.top.pads) _ b)

  first : Among n (port_names (vector_port input_port (codes "mio_in") top.pins.ins))
      ⊎ Among n (port_names (vector_port output_port (codes "mio_out") top.pins.outs ++ (vector_port input_port (codes "pad_in") top.merged.top.pads ++ vector_port output_port (codes "pad_out") top.merged.top.pads)))
      → NoH n
  first (inl b) = vector_no_h input_port (λ w m. refl) (codes "mio_in") (letter_no_h 109 _ (λ e. omega (arith, e))) top.pins.ins n b
  first (inr b) = outs (port_parts n (vector_port output_port (codes "mio_out") top.pins.outs) _ b)

sources_no_h : (top : Built) (n : List ℕ) → Among n (source_part top) → NoH n
sources_no_h top n (inl e) = subst NoH (sym e) (letter_no_h 105 _ (λ f. omega (arith, f)))
sources_no_h top n (inr a) = by (port_parts n (vector_port output_port (codes "alert_src") top.numbers.alert) _ a) where
  by : Among n (port_names (vector_port output_port (codes "alert_src") top.numbers.alert)) ⊎ Among n (port_names (pin_ports top.merged top.pins)) → NoH n
  by (inl b) = vector_no_h output_port (λ w m. refl) (codes "alert_src") (letter_no_h 97 _ (λ e. omega (arith, e))) top.numbers.alert n b
  by (inr b) = pins_no_h top n b

ports_no_h : (top : Built) (n : List ℕ) → Among n (port_names (top_ports top)) → NoH n
ports_no_h top n a = first (among_parts n (clock_part top) _ (subst (Among n) (ports_are top) a)) where
  third : Among n (flat_map (port_part top) (ordered top.merged)) ⊎ Among n (source_part top) → NoH n
  third (inl b) = nodes_no_h top (ordered top.merged) n b
  third (inr b) = sources_no_h top n b

  second : Among n (reset_part top) ⊎ Among n (flat_map (port_part top) (ordered top.merged) ++ source_part top) → NoH n
  second (inl b) = mapped_ports (λ r. input_port 1 (reset_net r)) top.merged.top.resets n (λ r. record { letter = 114; rest = _; name_is = refl; no_h = λ f. omega (arith, f) }) b
  second (inr b) = third (among_parts n (flat_map (port_part top) (ordered top.merged)) _ b)

  first : Among n (clock_part top) ⊎ Among n (reset_part top ++ (flat_map (port_part top) (ordered top.merged) ++ source_part top)) → NoH n
  first (inl b) = mapped_ports (λ s. input_port 1 (clock_net s)) top.merged.top.sources n (λ s. record { letter = 99; rest = _; name_is = refl; no_h = λ f. omega (arith, f) }) b
  first (inr b) = second (among_parts n (reset_part top) _ b)

pub no_host_port : (top : Built) (name : List ℕ) → is_among (inputs_of (top_module top).ports) ((host_link name).request) ≡ false
no_host_port top name = by (is_among (inputs_of (top_module top).ports) ((host_link name).request)) refl where
  by : (b : Bool) → is_among (inputs_of (top_module top).ports) ((host_link name).request) ≡ b → b ≡ false
  by false e = refl
  by true e =
      let h = ports_no_h top ((host_link name).request) (subst (λ ps. Among ((host_link name).request) (port_names ps)) (ports_of_top top) (input_is_port (top_module top).ports ((host_link name).request) (among_by_test _ ((host_link name).request) e))) in
      let same : h.letter ≡ 104 = cc in absurd (h.no_h same)

-- ---- which nets come from a crossbar

comes_here : (mods : List Module) (q m : List ℕ) (ps : List Parameter) (n : List ℕ) (cs : List Connection) (es : List Entry) → Among (inst m ps n cs) es
    → is_some_module (module_named mods m) ≡ true → is_device_net q cs cs ≡ true → comes_from_crossbar mods es q ≡ true
comes_here mods q m ps n cs [] a s d = absurd a
comes_here mods q m ps n cs (e ∷ es) (inl same) s d = subst (λ x. comes_from_crossbar mods (x ∷ es) q ≡ true) same (rw (s, d) refl)
comes_here mods q m ps n cs (wire w k ∷ es) (inr a) s d = comes_here mods q m ps n cs es a s d
comes_here mods q m ps n cs (drive w k x ∷ es) (inr a) s d = comes_here mods q m ps n cs es a s d
comes_here mods q m ps n cs (assign k x ∷ es) (inr a) s d = comes_here mods q m ps n cs es a s d
comes_here mods q m ps n cs (inst i qs k ds ∷ es) (inr a) s d = by (is_some_module (module_named mods i) && is_device_net q ds ds) (comes_here mods q m ps n cs es a s d) where
  by : (b : Bool) → comes_from_crossbar mods es q ≡ true → (b || comes_from_crossbar mods es q) ≡ true
  by true e = refl
  by false e = e

comes_never : (mods : List Module) (q : List ℕ) (es : List Entry) → ((e : Entry) → Among e es → comes_from_crossbar mods (e ∷ []) q ≡ false) → comes_from_crossbar mods es q ≡ false
comes_never mods q [] h = refl
comes_never mods q (wire w k ∷ es) h = comes_never mods q es (λ e a. h e (inr a))
comes_never mods q (drive w k x ∷ es) h = comes_never mods q es (λ e a. h e (inr a))
comes_never mods q (assign k x ∷ es) h = comes_never mods q es (λ e a. h e (inr a))
comes_never mods q (inst i qs k ds ∷ es) h = by (is_some_module (module_named mods i) && is_device_net q ds ds) (h (inst i qs k ds) (inl refl)) (comes_never mods q es (λ e a. h e (inr a))) where
  by : (b : Bool) → (b || false) ≡ false → comes_from_crossbar mods es q ≡ false → (b || comes_from_crossbar mods es q) ≡ false
  by true e f = cc
  by false e f = f

device_net_here : (q : List ℕ) (cs ds : List Connection) (c : Connection) → Among c ds → is_device_request c.name ≡ true → is_bare (connection_at c.name cs) q ≡ true → is_device_net q cs ds ≡ true
device_net_here q cs [] c a r b = absurd a
device_net_here q cs (d ∷ ds) c (inl e) r b = subst (λ (x : Connection). ((is_device_request x.name && is_bare (connection_at x.name cs) q) || is_device_net q cs ds) ≡ true) e (rw (r, b) refl)
device_net_here q cs (d ∷ ds) c (inr a) r b = by (is_device_request d.name && is_bare (connection_at d.name cs) q) (device_net_here q cs ds c a r b) where
  by : (t : Bool) → is_device_net q cs ds ≡ true → (t || is_device_net q cs ds) ≡ true
  by true e = refl
  by false e = e

device_net_never : (q : List ℕ) (cs ds : List Connection) → ((c : Connection) → Among c ds → is_device_request c.name ≡ true → is_bare (connection_at c.name cs) q ≡ false) → is_device_net q cs ds ≡ false
device_net_never q cs [] h = refl
device_net_never q cs (d ∷ ds) h = by (is_device_request d.name) (h d (inl refl)) (device_net_never q cs ds (λ c a. h c (inr a))) where
  by : (t : Bool) → (t ≡ true → is_bare (connection_at d.name cs) q ≡ false) → is_device_net q cs ds ≡ false → ((t && is_bare (connection_at d.name cs) q) || is_device_net q cs ds) ≡ false
  by true f e = rw (f refl) e
  by false f e = e

-- ---- the crossbar at which a host's request comes in

abbrev Skipped : List Module → Module → Link → Entry → Type 0
Skipped mods first h e = (i : ℕ) (es : List Entry) → host_crossbar mods first h i (e ∷ es) ≡ host_crossbar mods first h (suc i) es

pass_all : (mods : List Module) (first : Module) (h : Link) (xs ys : List Entry) (i : ℕ) → ((e : Entry) → Among e xs → Skipped mods first h e)
    → host_crossbar mods first h i (xs ++ ys) ≡ host_crossbar mods first h (i + length xs) ys
pass_all mods first h [] ys i p = ap (λ k. host_crossbar mods first h k ys) (omega arith)
pass_all mods first h (x ∷ xs) ys i p =
    p x (inl refl) i (xs ++ ys) ∙ (pass_all mods first h xs ys (suc i) (λ e a. p e (inr a)) ∙ ap (λ k. host_crossbar mods first h k ys) (omega arith))

pass_unnamed : (mods : List Module) (first : Module) (h : Link) (m : List ℕ) (ps : List Parameter) (n : List ℕ) (cs : List Connection) → module_named mods m ≡ None → Skipped mods first h (inst m ps n cs)
pass_unnamed mods first h m ps n cs e i es = rw e refl

pass_other : (mods : List Module) (first : Module) (h : Link) (m : List ℕ) (ps : List Parameter) (n : List ℕ) (cs : List Connection) (x : Module) → module_named mods m ≡ Some x
    → is_host_net mods first (connection_at h.request cs) ≡ false → Skipped mods first h (inst m ps n cs)
pass_other mods first h m ps n cs x e f i es = rw (e, f) refl

start_false : (later : Next) (i : ℕ) (o : Option Module) (cs : List Connection) (h : Link) → start_or later false i o cs h ≡ later
start_false later i None cs h = refl
start_false later i (Some m) cs h = refl

host_here : (mods : List Module) (first : Module) (h : Link) (m : List ℕ) (ps : List Parameter) (n : List ℕ) (cs : List Connection) (x : Module) (i : ℕ) (es : List Entry) → module_named mods m ≡ Some x
    → is_host_net mods first (connection_at h.request cs) ≡ true → comes_in x h ≡ true → is_some_net (connection_at h.response cs) ≡ true
    → host_crossbar mods first h i (inst m ps n cs ∷ es) ≡ on (position (within i) h)
host_here mods first h m ps n cs x i es e f g r = rw (e, f, g, r) refl

-- a connection of a crossbar's instance: a clock, or a node's request or response
pub data OfCrossbar (top : Built) (y : ℕ) (c : Connection) : Type 0 where
  of_clock : (k : List ℕ) → c.name ≡ codes "c_" ++ k → OfCrossbar top y c
  of_request : (n : NodeId) → IsNode top.merged n → n.xbar ≡ y → c ≡ connection (port_link top.merged n).request (net (link_of top.merged n).request) → OfCrossbar top y c
  of_response : (n : NodeId) → IsNode top.merged n → n.xbar ≡ y → c ≡ connection (port_link top.merged n).response (net (link_of top.merged n).response) → OfCrossbar top y c

of_crossbar : (top : Built) (y : ℕ) (c : Connection) → Among c (crossbar_connections top y) → OfCrossbar top y c
of_crossbar top y c a = by (in_parts c (crossbar_ties top.ties y) _ a) where
  among : (n : NodeId) → Among n (filter (is_host top.merged) (nodes_in top.merged y)) ⊎ Among n (filter (λ n. not (is_host top.merged n)) (nodes_in top.merged y)) → Among n (nodes_in top.merged y)
  among n (inl z) = (from_those (is_host top.merged) (nodes_in top.merged y) n z).0
  among n (inr z) = (from_those (λ n. not (is_host top.merged n)) (nodes_in top.merged y) n z).0

  at : (n : NodeId) → Among n (nodes_in top.merged y) → Among c (node_connections top.merged n) → OfCrossbar top y c
  at n i (inl e) = of_request n (node_of_all top.merged y n i) (node_xbar top.merged y n i) e
  at n i (inr (inl e)) = of_response n (node_of_all top.merged y n i) (node_xbar top.merged y n i) e
  at n i (inr (inr e)) = absurd e

  by : Among c (crossbar_ties top.ties y) ⊎ Among c (flat_map (node_connections top.merged) (ordered_in top.merged y)) → OfCrossbar top y c
  by (inl b) = let h = from_map crossbar_clock (filter (λ t. is_listed y t.owner) top.ties) c b in of_clock h.0.port (ap (λ (z : Connection). z.name) h.2)
  by (inr b) = let h = from_each (node_connections top.merged) (ordered_in top.merged y) c b in at h.0 (among h.0 (in_parts h.0 _ _ h.1)) h.2

pub plain_links : (top : Built) (n : NodeId) (e : NodeEnd) → IsPlain e → joined_link top.merged n true e ≡ own_link top.merged n
plain_links top n (Face i f) p = refl
plain_links top n (Host i f) p = refl
plain_links top n Outside p = refl
plain_links top n (Xbar x) p = absurd p

pub plain_has : (e : NodeEnd) → IsPlain e → HasLink true e
plain_has (Face i f) p = tt
plain_has (Host i f) p = tt
plain_has Outside p = tt
plain_has (Xbar x) p = absurd p

module _ (top : Built) (merged : IsJoined top.merged) (names : NamesApart top) (ms : List Module) (there : HasCrossbars top ms) where
  -- a device's net comes from its crossbar
  from_crossbar : (d : NodeId) → IsDevice top.merged d → comes_from_crossbar (top_module top ∷ ms) (top_module top).entries (own_link top.merged d).request ≡ true
  from_crossbar d is =
      let y = d.xbar in
      let less : y < length top.merged.xbars = node_in_range top.merged d is.0 in
      let c = connection (port_link top.merged d).request (net (link_of top.merged d).request) in
      let inside : Among c (crossbar_connections top y) = in_back c (crossbar_ties top.ties y) _ (in_each (node_connections top.merged) (ordered_in top.merged y) d c (node_among top d is.0) (inl refl)) in
      let stands : Among (crossbar_entry top y) (top_entries top) =
      in_back _ (top_nets top) _ (in_back _ (map (instance_entry top) (counting 0 (length top.merged.top.insts))) _ (in_map (crossbar_entry top) (counting 0 (length top.merged.xbars)) y (in_counting 0 (length top.merged.xbars) y (omega arith) (omega (arith, less))))) in
      let request : is_device_request (port_link top.merged d).request ≡ true = ap (λ (l : Link). is_device_request l.request) (device_port_is top d is) ∙ ends_itself (codes "d_" ++ spelled (node_of top.merged d).name) (codes "_req") in
      let bare : is_bare (connection_at (port_link top.merged d).request (crossbar_connections top y)) (own_link top.merged d).request ≡ true =
      ap (λ o. is_bare o (own_link top.merged d).request) ((node_connected top names d is.0).0 ∙ ap (λ (l : Link). Some (net l.request)) (device_link_is top d is)) ∙ bare_itself (own_link top.merged d).request in
      ap (λ es. comes_from_crossbar (top_module top ∷ ms) es (own_link top.merged d).request) (entries_of_top top)
      ∙ comes_here (top_module top ∷ ms) (own_link top.merged d).request (crossbar_module_name top.merged y) [] (codes "u_xbar_" ++ (crossbar_of top.merged y).name) (crossbar_connections top y) (top_entries top) stands
      (ap is_some_module (there.named y less)) (device_net_here (own_link top.merged d).request (crossbar_connections top y) (crossbar_connections top y) c inside request bare)

  module _ (h : NodeId) (is : IsHost top.merged h) (plain : IsPlain (end_of top.merged h)) where
    has_own : HasLink (is_host top.merged h) (end_of top.merged h)
    has_own = subst (λ b. HasLink b (end_of top.merged h)) (sym is.1) (plain_has (end_of top.merged h) plain)

    no_device : (y : ℕ) (c : Connection) → Among c (crossbar_connections top y) → is_device_request c.name ≡ true → c.value ≡ net (own_link top.merged h).request → ⊥
    no_device y c a r v = by (of_crossbar top y c a) where
      at : (n : NodeId) → IsNode top.merged n → (b : Bool) → is_host top.merged n ≡ b → c ≡ connection (port_link top.merged n).request (net (link_of top.merged n).request) → ⊥
      at n node true host e =
          let no : is_device_request (port_link top.merged n).request ≡ false = rw host refl in
          let yes : is_device_request (port_link top.merged n).request ≡ true = ap (λ (z : Connection). is_device_request z.name) (sym e) ∙ r in absurd (cc)
      at n node false host e =
          let device : IsDevice top.merged n = (node, host) in
          let same_net : (own_link top.merged n).request ≡ (own_link top.merged h).request = ap (λ (l : Link). l.request) (sym (device_link_is top n device)) ∙ net_same _ _ (ap (λ (z : Connection). z.value) (sym e) ∙ v) in
          let same = one_request top (names_of_top top names) n h node is.0 (device_has_link top n device) has_own same_net in
          let both : false ≡ true = sym host ∙ (ap (is_host top.merged) same ∙ is.1) in absurd (cc)

      by : OfCrossbar top y c → ⊥
      by (of_clock k e) = let no : is_device_request c.name ≡ false = ap is_device_request e in absurd (cc)
      by (of_request n node here e) = at n node (is_host top.merged n) refl e
      by (of_response n node here e) = let own = own_by top n (is_host top.merged n) (end_of top.merged n) in
          no_own_response top own.0 h (ap (λ (l : Link). l.response) (sym own.1) ∙ net_same _ _ (ap (λ (z : Connection). z.value) (sym e) ∙ v))

    -- the host's own net comes from no crossbar
    from_no_crossbar : comes_from_crossbar (top_module top ∷ ms) (top_module top).entries (own_link top.merged h).request ≡ false
    from_no_crossbar =
        ap (λ es. comes_from_crossbar (top_module top ∷ ms) es (own_link top.merged h).request) (entries_of_top top)
        ∙ comes_never (top_module top ∷ ms) (own_link top.merged h).request (top_entries top) (λ e a. first e (in_parts e (top_nets top) _ a)) where
          block : (i : ℕ) → i < length top.merged.top.insts → comes_from_crossbar (top_module top ∷ ms) (instance_entry top i ∷ []) (own_link top.merged h).request ≡ false
          block i less = rw (there.blocks_unnamed i less) refl

          bus : (y : ℕ) → y < length top.merged.xbars → comes_from_crossbar (top_module top ∷ ms) (crossbar_entry top y ∷ []) (own_link top.merged h).request ≡ false
          bus y less = ap (λ b. (is_some_module (module_named (top_module top ∷ ms) (crossbar_module_name top.merged y)) && b) || false)
              (device_net_never (own_link top.merged h).request (crossbar_connections top y) (crossbar_connections top y)
              (λ c a r. bare_none (crossbar_connections top y) c.name (own_link top.merged h).request
              (λ g g_in same. not_bare g.value (own_link top.merged h).request (λ v. no_device y g g_in (ap is_device_request same ∙ r) v))))
              ∙ ap (λ o. (is_some_module o && false) || false) (there.named y less)

          rest : (e : Entry) → Among e (map (instance_entry top) (counting 0 (length top.merged.top.insts))) ⊎ Among e (map (crossbar_entry top) (counting 0 (length top.merged.xbars))) → comes_from_crossbar (top_module top ∷ ms) (e ∷ []) (own_link top.merged h).request ≡ false
          rest e (inl b) = let m = from_map (instance_entry top) (counting 0 (length top.merged.top.insts)) e b in
              subst (λ x. comes_from_crossbar (top_module top ∷ ms) (x ∷ []) (own_link top.merged h).request ≡ false) (sym m.2) (block m.0 (let r = from_counting 0 (length top.merged.top.insts) m.0 m.1 in omega (arith, r.1)))
          rest e (inr b) = let m = from_map (crossbar_entry top) (counting 0 (length top.merged.xbars)) e b in let r = from_counting 0 (length top.merged.xbars) m.0 m.1 in
              subst (λ x. comes_from_crossbar (top_module top ∷ ms) (x ∷ []) (own_link top.merged h).request ≡ false) (sym m.2) (bus m.0 (omega (arith, r.1)))

          first : (e : Entry) → Among e (top_nets top) ⊎ Among e (map (instance_entry top) (counting 0 (length top.merged.top.insts)) ++ map (crossbar_entry top) (counting 0 (length top.merged.xbars))) → comes_from_crossbar (top_module top ∷ ms) (e ∷ []) (own_link top.merged h).request ≡ false
          first e (inl b) = nets_all (λ e. comes_from_crossbar (top_module top ∷ ms) (e ∷ []) (own_link top.merged h).request ≡ false) (λ w n. refl) (λ w n x. refl) (λ n x. refl) top e b
          first e (inr b) = rest e (in_parts e (map (instance_entry top) (counting 0 (length top.merged.top.insts))) _ b)

    -- a crossbar before the host's has no such host
    not_there : (y : ℕ) → y < h.xbar → (o : Option Expression) → connection_at (host_link (node_of top.merged h).name).request (crossbar_connections top y) ≡ o → is_host_net (top_module top ∷ ms) (top_module top) o ≡ false
    not_there y less None e = refl
    not_there y less (Some v) e = by (of_crossbar top y f.0 f.1) where
      f : (c : Connection) × Among c (crossbar_connections top y) × (c.name ≡ (host_link (node_of top.merged h).name).request) × (c.value ≡ v)
      f = found_connection (crossbar_connections top y) (host_link (node_of top.merged h).name).request v e

      counts : is_host_request (host_link (node_of top.merged h).name).request ≡ true
      counts = ends_itself (codes "h_" ++ spelled (node_of top.merged h).name) (codes "_req")

      plain_one : (n : NodeId) → IsHost top.merged n → IsPlain (end_of top.merged n) → (port_link top.merged n).request ≡ (host_link (node_of top.merged h).name).request → n.xbar ≡ y → ⊥
      plain_one n host p same here =
          let one = merged.hosts_apart n h host is p plain (ap (λ (l : Link). l.request) (sym (host_port_is top n host)) ∙ same) in
          let number : n.xbar ≡ h.xbar = ap (λ (m : NodeId). m.xbar) one in omega (arith, number, here, less)

      nested : (n : NodeId) → IsHost top.merged n → (end : NodeEnd) → end_of top.merged n ≡ end → (port_link top.merged n).request ≡ (host_link (node_of top.merged h).name).request → n.xbar ≡ y
          → v ≡ net (joined_link top.merged n true end).request → is_host_net (top_module top ∷ ms) (top_module top) (Some v) ≡ false
      nested n host (Xbar x) at same here value =
          let o = merged.outer_given n x host at in
          let d = outer_device_is top x n.xbar o.0 o.1 in
          let is_net : v ≡ net (own_link top.merged o.0).request = value ∙ ap (λ (z : Option NodeId). net (or_own (own_link top.merged n) top.merged z).request) o.1 in
          ap (λ z. is_host_net (top_module top ∷ ms) (top_module top) (Some z)) is_net ∙ ap not (from_crossbar o.0 d.0)
      nested n host (Face i g) at same here value = absurd (plain_one n host (subst IsPlain (sym at) tt) same here)
      nested n host (Host i g) at same here value = absurd (plain_one n host (subst IsPlain (sym at) tt) same here)
      nested n host Outside at same here value = absurd (plain_one n host (subst IsPlain (sym at) tt) same here)

      at : (n : NodeId) → IsNode top.merged n → n.xbar ≡ y → (b : Bool) → is_host top.merged n ≡ b → f.0 ≡ connection (port_link top.merged n).request (net (link_of top.merged n).request) → is_host_net (top_module top ∷ ms) (top_module top) (Some v) ≡ false
      at n node here false host c =
          let no : is_host_request (port_link top.merged n).request ≡ false = rw host refl in
          let yes : is_host_request (port_link top.merged n).request ≡ true = ap is_host_request (ap (λ (z : Connection). z.name) (sym c) ∙ f.2) ∙ counts in absurd (cc)
      at n node here true host c =
          nested n (node, host) (end_of top.merged n) refl (ap (λ (z : Connection). z.name) (sym c) ∙ f.2) here
          (sym f.3 ∙ (ap (λ (z : Connection). z.value) c ∙ ap (λ b. net (joined_link top.merged n b (end_of top.merged n)).request) host))

      response : (n : NodeId) → (b : Bool) → is_host top.merged n ≡ b → f.0 ≡ connection (port_link top.merged n).response (net (link_of top.merged n).response) → ⊥
      response n true host c =
          no_response (codes "h_" ++ spelled (node_of top.merged h).name) (codes "h_" ++ spelled (node_of top.merged n).name)
          (sym f.2 ∙ (ap (λ (z : Connection). z.name) c ∙ ap (λ b. (cond b (host_link (node_of top.merged n).name) (device_link (node_of top.merged n).name)).response) host))
      response n false host c =
          no_response (codes "h_" ++ spelled (node_of top.merged h).name) (codes "d_" ++ spelled (node_of top.merged n).name)
          (sym f.2 ∙ (ap (λ (z : Connection). z.name) c ∙ ap (λ b. (cond b (host_link (node_of top.merged n).name) (device_link (node_of top.merged n).name)).response) host))

      by : OfCrossbar top y f.0 → is_host_net (top_module top ∷ ms) (top_module top) (Some v) ≡ false
      by (of_clock k c) =
          let no : is_host_request f.0.name ≡ false = ap is_host_request c in
          let yes : is_host_request f.0.name ≡ true = ap is_host_request f.2 ∙ counts in absurd (cc)
      by (of_request n node here c) = at n node here (is_host top.merged n) refl c
      by (of_response n node here c) = absurd (response n (is_host top.merged n) refl c)

    -- A host's requests come in over its link in its crossbar.
    pub starts : start (top_module top ∷ ms) (node_of top.merged h).name ≡ on (position (within (crossbar_number top h.xbar)) (host_link (node_of top.merged h).name))
    unfolding start
    starts =
        let mods = top_module top ∷ ms in
        let y = h.xbar in
        let less : y < length top.merged.xbars = node_in_range top.merged h is.0 in
        let l = host_link (node_of top.merged h).name in
        let insts = map (instance_entry top) (counting 0 (length top.merged.top.insts)) in
        let cs = crossbar_connections top y in
        let size : length (map (crossbar_entry top) (counting 0 y)) ≡ y = length-map (counting 0 y) (crossbar_entry top) ∙ counting_length 0 y in
        let place : (0 + length (top_nets top)) + length insts + length (map (crossbar_entry top) (counting 0 y)) ≡ crossbar_number top y = omega (arith, size) in
        let mine : link_of top.merged h ≡ own_link top.merged h = ap (λ b. joined_link top.merged h b (end_of top.merged h)) is.1 ∙ plain_links top h (end_of top.merged h) plain in
        let request : connection_at l.request cs ≡ Some (net (own_link top.merged h).request) =
        ap (λ (z : Link). connection_at z.request cs) (sym (host_port_is top h is)) ∙ ((node_connected top names h is.0).0 ∙ ap (λ (z : Link). Some (net z.request)) mine) in
        let response : connection_at l.response cs ≡ Some (net (own_link top.merged h).response) =
        ap (λ (z : Link). connection_at z.response cs) (sym (host_port_is top h is)) ∙ ((node_connected top names h is.0).1 ∙ ap (λ (z : Link). Some (net z.response)) mine) in
        let new : is_host_net mods (top_module top) (connection_at l.request cs) ≡ true = ap (is_host_net mods (top_module top)) request ∙ ap not from_no_crossbar in
        ap (λ b. cond b (cond (comes_in (top_module top) (host_link (node_of top.merged h).name)) (on (position alone (host_link (node_of top.merged h).name))) (ends error)) (host_crossbar mods (top_module top) (host_link (node_of top.merged h).name) 0 (top_module top).entries)) (no_host_port top (node_of top.merged h).name)
        ∙ (ap (host_crossbar mods (top_module top) l 0) (entries_of_top top)
        ∙ (pass_all mods (top_module top) l (top_nets top) _ 0 (λ e a. nets_all (Skipped mods (top_module top) l) (λ w n i es. refl) (λ w n x i es. refl) (λ n x i es. refl) top e a)
        ∙ (pass_all mods (top_module top) l insts _ _ (λ e a. let m = from_map (instance_entry top) (counting 0 (length top.merged.top.insts)) e a in
        subst (Skipped mods (top_module top) l) (sym m.2) (pass_block m.0 (let r = from_counting 0 (length top.merged.top.insts) m.0 m.1 in omega (arith, r.1))))
        ∙ (ap (host_crossbar mods (top_module top) l _) (numbered_split (crossbar_entry top) (length top.merged.xbars) y less)
        ∙ (pass_all mods (top_module top) l (map (crossbar_entry top) (counting 0 y)) _ _ (λ e a. let m = from_map (crossbar_entry top) (counting 0 y) e a in let r = from_counting 0 y m.0 m.1 in
        subst (Skipped mods (top_module top) l) (sym m.2)
        (pass_other mods (top_module top) l (crossbar_module_name top.merged m.0) [] (codes "u_xbar_" ++ (crossbar_of top.merged m.0).name) (crossbar_connections top m.0) (there.module_of m.0) (there.named m.0 (omega (arith, r.1, less)))
        (not_there m.0 (omega (arith, r.1)) (connection_at l.request (crossbar_connections top m.0)) refl)))
        ∙ (host_here mods (top_module top) l (crossbar_module_name top.merged y) [] (codes "u_xbar_" ++ (crossbar_of top.merged y).name) cs (there.module_of y) _ (map (crossbar_entry top) (counting (suc y) (length top.merged.xbars - suc y))) (there.named y less) new
        ((there.is y less).comes h is refl) (ap is_some_net response)
        ∙ ap (λ k. on (position (within k) l)) place)))))) where
          pass_block : (i : ℕ) → i < length top.merged.top.insts → Skipped (top_module top ∷ ms) (top_module top) (host_link (node_of top.merged h).name) (instance_entry top i)
          pass_block i less = pass_unnamed (top_module top ∷ ms) (top_module top) (host_link (node_of top.merged h).name) (block_of top.merged i).desc.name
              (map address_width (block_of top.merged i).faces) (codes "u_" ++ (instance_of top.merged i).name) (instance_connections top i) (there.blocks_unnamed i less)
