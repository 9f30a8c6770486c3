-- The nets and entries of the top module, as the walk finds them.
use Rattle.std.proofs.Common.{Bool, List, Some, [], ap, arith, false, flat_map, inl, inr, length, map, option_map, refl, slice_get, subst, suc, sym, true, zero, ℕ, ◌++◌, ◌+◌, ◌<◌, ◌∙◌, ◌∷◌, ◌≡◌}
use Rattle.std.proofs.lemmas.Option.{slice_get-map}
use Rattle.cg_desc.specs.declared.top.NodeEnd.{NodeEnd}
use Rattle.cg_desc.specs.declared.top.NodeEnd.TheVariants.{Face, Host, Outside, Xbar}
use Rattle.cg_regspec.specs.RegisterModule.{connection}
use Rattle.cg_svspec.specs.Links.{Link, device_link, host_link, is_net, nets_of, wire_nets}
use Rattle.cg_svspec.specs.Names.{Among}
use Rattle.cg_svspec.specs.Register.{input_port}
use Rattle.cg_svspec.specs.Tree.{Entry, Port, net, wire}
use Rattle.cg_svspec.specs.Value.{connection_at}
use Rattle.cg_svspec.specs.Walk.{between, between_at, on, outer_link, position}
use Rattle.cg_svspec.specs.WellFormed.{port_nets}
use Rattle.cg_topspec.proofs.Arrivals.{connection_found, net_there, port_net_there, slice_after, wire_net_there}
use Rattle.cg_topspec.proofs.Built.{Built, IsDevice, IsHost, IsNode, NamesApart, crossbar_connections, crossbar_entry, instance_entry, top_entries, top_module, top_nets, top_ports}
use Rattle.cg_topspec.proofs.ListLemmas.{from_each, in_back, in_each, in_front}
use Rattle.cg_topspec.proofs.Nets.{HasLink, all_ordered, device_has_link, in_ordered}
use Rattle.cg_topspec.proofs.Nodes.{node_in_range, node_xbar}
use Rattle.cg_topspec.proofs.Whole.{entries_of_top, ports_of_top}
use Rattle.cg_topspec.specs.Nets.{clock_net, link_of, own_link, reset_net}
use Rattle.cg_topspec.specs.Top.{NodeId, counting, end_of, is_host, node_of, nodes_in, ordered, ordered_in}
use Rattle.cg_topspec.specs.TopModule.{crossbar_ties, end_ports, end_wires, node_connections, node_ports, node_wires, port_link}

-- ---- a node's ports and wires stand in the module

pub node_port_there : (top : Built) (n : NodeId) → IsNode top.merged n → (p : Port) → Among p (node_ports top.merged n) → Among p (top_ports top)
node_port_there top n is p a =
    in_back p (map (λ s. input_port 1 (clock_net s)) top.merged.top.sources) _ (in_back p (map (λ r. input_port 1 (reset_net r)) top.merged.top.resets) _
    (in_front p (flat_map (node_ports top.merged) (ordered top.merged)) _ (in_each (node_ports top.merged) (ordered top.merged) n p (all_ordered top n is) a)))

pub node_wire_there : (top : Built) (n : NodeId) → IsNode top.merged n → (e : Entry) → Among e (node_wires top.merged n) → Among e (top_entries top)
node_wire_there top n is e a =
    in_front e (top_nets top) _ (in_front e (flat_map (node_wires top.merged) (ordered top.merged)) _ (in_each (node_wires top.merged) (ordered top.merged) n e (all_ordered top n is) a))

net_of_port : (top : Built) (p : Port) → Among p (top_ports top) → is_net (nets_of (top_module top)) p.width p.name ≡ true
net_of_port top p a = rw (ports_of_top top) (net_there (port_nets (top_ports top) ++ wire_nets (top_module top).entries) p.width p.name (in_front _ (port_nets (top_ports top)) _ (port_net_there p (top_ports top) a)))

net_of_wire : (top : Built) (w : ℕ) (n : List ℕ) → Among (wire w n) (top_entries top) → is_net (nets_of (top_module top)) w n ≡ true
net_of_wire top w n a = rw (entries_of_top top) (net_there (port_nets (top_module top).ports ++ wire_nets (top_entries top)) w n (in_back _ (port_nets (top_module top).ports) _ (wire_net_there w n (top_entries top) a)))

-- the nets of a node's link have the widths of a link
link_nets_by : (top : Built) (n : NodeId) → IsNode top.merged n → (host : Bool) (e : NodeEnd) (l : Link) → HasLink host e
    → ((p : Port) → Among p (end_ports host l e) → Among p (top_ports top)) → ((x : Entry) → Among x (end_wires host l e) → Among x (top_entries top))
    → (is_net (nets_of (top_module top)) 70 l.request ≡ true) × (is_net (nets_of (top_module top)) 33 l.response ≡ true)
link_nets_by top n is true Outside l h ports wires = (net_of_port top _ (ports _ (inl refl)), net_of_port top _ (ports _ (inr (inl refl))))
link_nets_by top n is false Outside l h ports wires = (net_of_port top _ (ports _ (inl refl)), net_of_port top _ (ports _ (inr (inl refl))))
link_nets_by top n is true (Xbar x) l h ports wires = absurd h
link_nets_by top n is false (Xbar x) l h ports wires = (net_of_wire top 70 _ (wires _ (inl refl)), net_of_wire top 33 _ (wires _ (inr (inl refl))))
link_nets_by top n is true (Face i f) l h ports wires = (net_of_wire top 70 _ (wires _ (inl refl)), net_of_wire top 33 _ (wires _ (inr (inl refl))))
link_nets_by top n is false (Face i f) l h ports wires = (net_of_wire top 70 _ (wires _ (inl refl)), net_of_wire top 33 _ (wires _ (inr (inl refl))))
link_nets_by top n is true (Host i f) l h ports wires = (net_of_wire top 70 _ (wires _ (inl refl)), net_of_wire top 33 _ (wires _ (inr (inl refl))))
link_nets_by top n is false (Host i f) l h ports wires = (net_of_wire top 70 _ (wires _ (inl refl)), net_of_wire top 33 _ (wires _ (inr (inl refl))))

pub link_nets : (top : Built) (n : NodeId) → IsNode top.merged n → HasLink (is_host top.merged n) (end_of top.merged n)
    → (is_net (nets_of (top_module top)) 70 (own_link top.merged n).request ≡ true) × (is_net (nets_of (top_module top)) 33 (own_link top.merged n).response ≡ true)
link_nets top n is has = link_nets_by top n is (is_host top.merged n) (end_of top.merged n) (own_link top.merged n) has (node_port_there top n is) (node_wire_there top n is)

-- ---- a crossbar's connections

pub node_among : (top : Built) (n : NodeId) → IsNode top.merged n → Among n (ordered_in top.merged n.xbar)
node_among top n is =
    let h = from_each (nodes_in top.merged) (counting 0 (length top.merged.xbars)) n is in
    subst (λ x. Among n (ordered_in top.merged x)) (sym (node_xbar top.merged h.0 n h.2)) (in_ordered top h.0 n h.2)

-- each node's connections are found by their names
pub node_connected : (top : Built) → NamesApart top → (n : NodeId) → IsNode top.merged n
    → (connection_at (port_link top.merged n).request (crossbar_connections top n.xbar) ≡ Some (net (link_of top.merged n).request))
    × (connection_at (port_link top.merged n).response (crossbar_connections top n.xbar) ≡ Some (net (link_of top.merged n).response))
node_connected top apart n is =
    let d = apart.crossbar_ports n.xbar (node_in_range top.merged n is) in (
      connection_found (crossbar_connections top n.xbar) d (connection (port_link top.merged n).request (net (link_of top.merged n).request))
          (in_back _ (crossbar_ties top.ties n.xbar) _ (in_each (node_connections top.merged) (ordered_in top.merged n.xbar) n _ (node_among top n is) (inl refl))),
      connection_found (crossbar_connections top n.xbar) d (connection (port_link top.merged n).response (net (link_of top.merged n).response))
          (in_back _ (crossbar_ties top.ties n.xbar) _ (in_each (node_connections top.merged) (ordered_in top.merged n.xbar) n _ (node_among top n is) (inr (inl refl)))),
    )

pub device_port_is : (top : Built) (d : NodeId) → IsDevice top.merged d → port_link top.merged d ≡ device_link (node_of top.merged d).name
device_port_is top d is = rw is.1 refl

pub host_port_is : (top : Built) (h : NodeId) → IsHost top.merged h → port_link top.merged h ≡ host_link (node_of top.merged h).name
host_port_is top h is = rw is.1 refl

pub device_link_is : (top : Built) (d : NodeId) → IsDevice top.merged d → link_of top.merged d ≡ own_link top.merged d
device_link_is top d is = rw is.1 refl

-- out of a crossbar's instance, at the first module's link of the device
pub goes_over : (top : Built) → NamesApart top → (d : NodeId) → IsDevice top.merged d
    → between_at (top_module top) (outer_link (connection_at (device_link (node_of top.merged d).name).request (crossbar_connections top d.xbar)) (connection_at (device_link (node_of top.merged d).name).response (crossbar_connections top d.xbar)))
    ≡ on (position between (own_link top.merged d))
goes_over top apart d is =
    let c = node_connected top apart d is.0 in
    let nets = link_nets top d is.0 (device_has_link top d is) in
    let port = device_port_is top d is in
    let mine = device_link_is top d is in
    let q : connection_at (device_link (node_of top.merged d).name).request (crossbar_connections top d.xbar) ≡ Some (net (own_link top.merged d).request) =
    ap (λ (l : Link). connection_at l.request (crossbar_connections top d.xbar)) (sym port) ∙ c.0 ∙ ap (λ (l : Link). Some (net l.request)) mine in
    let r : connection_at (device_link (node_of top.merged d).name).response (crossbar_connections top d.xbar) ≡ Some (net (own_link top.merged d).response) =
    ap (λ (l : Link). connection_at l.response (crossbar_connections top d.xbar)) (sym port) ∙ c.1 ∙ ap (λ (l : Link). Some (net l.response)) mine in
    rw (q, r, nets.0, nets.1) refl

-- ---- where the entries of instances stand

pub counting_get : (i n k : ℕ) → k < n → slice_get (counting i n) k ≡ Some (i + k)
counting_get i zero k h = absurd (omega (arith, h))
counting_get i (suc n) zero h = ap Some (omega arith)
counting_get i (suc n) (suc k) h = counting_get (suc i) n k (omega (arith, h)) ∙ ap Some (omega arith)

numbered : {A : Type 0} (f : ℕ → A) (n k : ℕ) → k < n → slice_get (map f (counting 0 n)) k ≡ Some (f k)
numbered f n k h = slice_get-map f (counting 0 n) k ∙ ap (option_map f) (counting_get 0 n k h ∙ ap Some (omega arith))

abbrev pub instance_number : Built → ℕ → ℕ
instance_number top i = length (top_nets top) + i

abbrev pub crossbar_number : Built → ℕ → ℕ
crossbar_number top x = length (top_nets top) + (length (map (instance_entry top) (counting 0 (length top.merged.top.insts))) + x)

pub crossbar_there : (top : Built) (x : ℕ) → x < length top.merged.xbars → slice_get (top_module top).entries (crossbar_number top x) ≡ Some (crossbar_entry top x)
crossbar_there top x h =
    ap (λ es. slice_get es (crossbar_number top x)) (entries_of_top top)
    ∙ (slice_after (top_nets top) _ _ ∙ (slice_after (map (instance_entry top) (counting 0 (length top.merged.top.insts))) _ x ∙ numbered (crossbar_entry top) (length top.merged.xbars) x h))

slice_front : {A : Type 0} (xs ys : List A) (k : ℕ) (x : A) → slice_get xs k ≡ Some x → slice_get (xs ++ ys) k ≡ Some x
slice_front [] ys k x e = cc
slice_front (z ∷ xs) ys zero x e = e
slice_front (z ∷ xs) ys (suc k) x e = slice_front xs ys k x e

pub instance_there : (top : Built) (i : ℕ) → i < length top.merged.top.insts → slice_get (top_module top).entries (instance_number top i) ≡ Some (instance_entry top i)
instance_there top i h =
    ap (λ es. slice_get es (instance_number top i)) (entries_of_top top)
    ∙ (slice_after (top_nets top) _ i ∙ slice_front (map (instance_entry top) (counting 0 (length top.merged.top.insts))) _ i _ (numbered (instance_entry top) (length top.merged.top.insts) i h))
