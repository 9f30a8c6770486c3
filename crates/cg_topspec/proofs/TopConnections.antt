-- At which connections of the top module's instances a device's net stands.
use Rattle.std.proofs.Common.{Bool, List, None, Option, Some, [], ap, arith, codes, false, filter, flat_map, inl, inr, map, not, refl, slice_get, subst, suc, sym, true, ℕ, ◌&&◌, ◌++◌, ◌+◌, ◌∙◌, ◌∷◌, ◌≡◌, ◌⊎◌}
use Rattle.std.proofs.lemmas.Bool.{eqb-true}
use Rattle.cg_clkrst.specs.declared.tie.Tie.{Tie}
use Rattle.cg_desc.specs.declared.block.HostFace.{HostFace}
use Rattle.cg_desc.specs.declared.block.LaidBlock.{LaidBlock}
use Rattle.cg_desc.specs.declared.block.LaidFace.{LaidFace}
use Rattle.cg_desc.specs.declared.top.NodeEnd.{NodeEnd}
use Rattle.cg_desc.specs.declared.top.NodeEnd.TheVariants.{Face, Host, Outside, Xbar}
use Rattle.cg_regspec.specs.RegisterModule.{connection}
use Rattle.cg_svspec.specs.Links.{Link, is_host_request}
use Rattle.cg_svspec.specs.Names.{Among}
use Rattle.cg_svspec.specs.Tree.{Connection, Expression, net}
use Rattle.cg_svspec.specs.Walk.{response_name}
use Rattle.cg_topspec.proofs.Built.{Built, IsDevice, IsHost, IsJoined, crossbar_connections, instance_connections}
use Rattle.cg_topspec.proofs.ListLemmas.{found_in, from_each, from_map, in_parts}
use Rattle.cg_topspec.proofs.Nets.{HasLink, NamesDiffer, begins_with_x, device_has_link, from_those, no_own_response, one_request}
use Rattle.cg_topspec.proofs.Nodes.{is_crossbar_gives, node_of_all, node_xbar}
use Rattle.cg_topspec.specs.Nets.{input_pins, joined_link, link_of, or_own, output_pins, own_link}
use Rattle.cg_topspec.specs.Top.{NodeId, all_nodes, block_of, device_node, end_of, host_node, instance_of, is_crossbar, is_device_face, is_host, is_host_face, nodes_in, ordered_in, outer_device}
use Rattle.cg_topspec.specs.TopModule.{alert_connection, crossbar_clock, crossbar_ties, face_connections, face_request, host_connections, host_face_request, host_face_response, instance_ties, interrupt_connection, is_instance, is_listed, joined_at, net_connections, node_connections, pin_input_connection, pin_output_connection, port_link, source_net, tie_connection}

and_both : (a b : Bool) → (a && b) ≡ true → (a ≡ true) × (b ≡ true)
and_both true b e = (refl, e)
and_both false b e = cc

not_gives : (b : Bool) → not b ≡ true → b ≡ false
not_gives true e = cc
not_gives false e = refl

pub net_same : (m n : List ℕ) → net m ≡ net n → m ≡ n
net_same m n e = cc

-- ---- which node a search finds

pub device_face_gives : (i f : ℕ) (e : NodeEnd) → is_device_face i f e ≡ true → e ≡ Face i f
device_face_gives i f (Face j g) e = let h = and_both _ _ e in let a : j ≡ i = eqb-true _ _ h.0 in let b : g ≡ f = eqb-true _ _ h.1 in rw (a, b) refl
device_face_gives i f (Host j g) e = cc
device_face_gives i f (Xbar x) e = cc
device_face_gives i f Outside e = cc

pub host_face_gives : (i f : ℕ) (e : NodeEnd) → is_host_face i f e ≡ true → e ≡ Host i f
host_face_gives i f (Host j g) e = let h = and_both _ _ e in let a : j ≡ i = eqb-true _ _ h.0 in let b : g ≡ f = eqb-true _ _ h.1 in rw (a, b) refl
host_face_gives i f (Face j g) e = cc
host_face_gives i f (Xbar x) e = cc
host_face_gives i f Outside e = cc

pub device_node_is : (top : Built) (i f : ℕ) (n : NodeId) → device_node top.merged i f ≡ Some n → IsDevice top.merged n × (end_of top.merged n ≡ Face i f)
device_node_is top i f n e =
    let h = found_in (λ n. not (is_host top.merged n) && is_device_face i f (end_of top.merged n)) (all_nodes top.merged) n e in
    let t = and_both _ _ h.1 in ((h.0, not_gives _ t.0), device_face_gives i f (end_of top.merged n) t.1)

pub host_node_is : (top : Built) (i f : ℕ) (n : NodeId) → host_node top.merged i f ≡ Some n → IsHost top.merged n × (end_of top.merged n ≡ Host i f)
host_node_is top i f n e =
    let h = found_in (λ n. is_host top.merged n && is_host_face i f (end_of top.merged n)) (all_nodes top.merged) n e in
    let t = and_both _ _ h.1 in ((h.0, t.0), host_face_gives i f (end_of top.merged n) t.1)

pub outer_device_is : (top : Built) (x y : ℕ) (n : NodeId) → outer_device top.merged x y ≡ Some n → IsDevice top.merged n × (n.xbar ≡ x) × (end_of top.merged n ≡ Xbar y)
outer_device_is top x y n e =
    let h = found_in (λ n. not (is_host top.merged n) && is_crossbar y (end_of top.merged n)) (nodes_in top.merged x) n e in
    let t = and_both _ _ h.1 in ((node_of_all top.merged x n h.0, not_gives _ t.0), node_xbar top.merged x n h.0, is_crossbar_gives y (end_of top.merged n) t.1)

-- ---- connections of an instance of a block

-- a net that is no link's: its name begins with another letter
pub record IsOther (c : Connection) : Type 0 where
  pub letter : ℕ
  pub rest : List ℕ
  pub value_is : c.value ≡ net (letter ∷ rest)
  pub no_x : letter ≡ 120 → ⊥

other_value : (top : Built) (d : NodeId) (c : Connection) → IsOther c → c.value ≡ net (own_link top.merged d).request → ⊥
other_value top d c o e =
    let x = begins_with_x top d in
    let same : o.letter ∷ o.rest ≡ 120 ∷ x.0 = net_same _ _ (sym o.value_is ∙ e) ∙ x.1 in
    o.no_x (cc)

source_other : (port : List ℕ) (reset : Bool) (source : List ℕ) → IsOther (connection port (net (source_net reset source)))
source_other port true source = record { letter = 114; rest = _; value_is = refl; no_x = λ e. omega (arith, e) }
source_other port false source = record { letter = 99; rest = _; value_is = refl; no_x = λ e. omega (arith, e) }

tied_other : (ties : List Tie) (i : ℕ) (c : Connection) → Among c (instance_ties ties i) → IsOther c
tied_other ties i c a =
    let h = from_map tie_connection (filter (λ t. is_instance i t.owner) ties) c a in
    subst IsOther (sym h.2) (source_other h.0.port h.0.reset h.0.source)

-- a connection to a node's link
pub data ToLink (top : Built) (c : Connection) (request response : List ℕ) (o : Option NodeId) : Type 0 where
  at_request : (n : NodeId) → o ≡ Some n → c ≡ connection request (net (own_link top.merged n).request) → ToLink top c request response o
  at_response : (n : NodeId) → o ≡ Some n → c ≡ connection response (net (own_link top.merged n).response) → ToLink top c request response o

joined_gives : (top : Built) (c : Connection) (request response : List ℕ) (o : Option NodeId) → Among c (joined_at top.merged request response o) → ToLink top c request response o
joined_gives top c request response None a = absurd a
joined_gives top c request response (Some n) (inl e) = at_request n refl e
joined_gives top c request response (Some n) (inr (inl e)) = at_response n refl e
joined_gives top c request response (Some n) (inr (inr a)) = absurd a

pub record AtFace (top : Built) (i f : ℕ) (faces : List LaidFace) (c : Connection) : Type 0 where
  pub number : ℕ
  pub face : LaidFace
  pub face_is : slice_get faces number ≡ Some face
  pub to_link : ToLink top c (face_request face.name) (response_name face.name) (device_node top.merged i (f + number))

face_gives : (top : Built) (i f : ℕ) (faces : List LaidFace) (c : Connection) → Among c (face_connections top.merged i f faces) → AtFace top i f faces c
face_gives top i f [] c a = absurd a
face_gives top i f (face ∷ faces) c a = by (face_gives top i (suc f) faces c) (in_parts c (joined_at top.merged (face_request face.name) (response_name face.name) (device_node top.merged i f)) _ a) where
  here : f + 0 ≡ f
  here = omega arith

  by : (Among c (face_connections top.merged i (suc f) faces) → AtFace top i (suc f) faces c)
      → Among c (joined_at top.merged (face_request face.name) (response_name face.name) (device_node top.merged i f)) ⊎ Among c (face_connections top.merged i (suc f) faces) → AtFace top i f (face ∷ faces) c
  by again (inl b) = record { number = 0; face = face; face_is = refl; to_link = rw here (joined_gives top c (face_request face.name) (response_name face.name) (device_node top.merged i f) b) }
  by again (inr b) =
      let h = again b in let next : f + suc h.number ≡ suc f + h.number = omega arith in
      record { number = suc h.number; face = h.face; face_is = h.face_is; to_link = rw next h.to_link }

pub record AtHostFace (top : Built) (i : ℕ) (c : Connection) : Type 0 where
  pub number : ℕ
  pub request : List ℕ
  pub response : List ℕ
  pub to_link : ToLink top c request response (host_node top.merged i number)

host_gives : (top : Built) (i f : ℕ) (faces : List HostFace) (c : Connection) → Among c (host_connections top.merged i f faces) → AtHostFace top i c
host_gives top i f [] c a = absurd a
host_gives top i f (face ∷ faces) c a = by (host_gives top i (suc f) faces c) (in_parts c (joined_at top.merged (host_face_request face.name) (host_face_response face.name) (host_node top.merged i f)) _ a) where
  by : (Among c (host_connections top.merged i (suc f) faces) → AtHostFace top i c)
      → Among c (joined_at top.merged (host_face_request face.name) (host_face_response face.name) (host_node top.merged i f)) ⊎ Among c (host_connections top.merged i (suc f) faces) → AtHostFace top i c
  by again (inl b) = record { number = f; request = host_face_request face.name; response = host_face_response face.name; to_link = joined_gives top c (host_face_request face.name) (host_face_response face.name) (host_node top.merged i f) b }
  by again (inr b) = again b

-- Of an instance's connections only the request of the interface that the device is has the device's net.
pub record AtRequest (top : Built) (i : ℕ) (d : NodeId) (c : Connection) : Type 0 where
  pub number : ℕ
  pub face : LaidFace
  pub face_is : slice_get (block_of top.merged i).faces number ≡ Some face
  pub end_is : end_of top.merged d ≡ Face i number
  pub connection_is : c ≡ connection (face_request face.name) (net (own_link top.merged d).request)

pub value_of : Connection → Expression
value_of c = c.value

module _ (top : Built) (merged : IsJoined top.merged) (apart : NamesDiffer top) (d : NodeId) (is : IsDevice top.merged d) where
  -- a host's link is not the device's
  no_host : (h : NodeId) → IsHost top.merged h → HasLink (is_host top.merged h) (end_of top.merged h) → (own_link top.merged h).request ≡ (own_link top.merged d).request → ⊥
  no_host h host has e =
      let same = one_request top apart h d host.0 is.0 has (device_has_link top d is) e in
      let both : true ≡ false = sym host.1 ∙ ap (is_host top.merged) same ∙ is.1 in absurd (cc)

  host_face_has : (h : NodeId) (i f : ℕ) → IsHost top.merged h → end_of top.merged h ≡ Host i f → HasLink (is_host top.merged h) (end_of top.merged h)
  host_face_has h i f host e = rw (host.1, e) tt

  at_face : (i : ℕ) (c : Connection) → c.value ≡ net (own_link top.merged d).request → (a : AtFace top i 0 (block_of top.merged i).faces c) → AtRequest top i d c
  at_face i c e a = by a.to_link where
    by : ToLink top c (face_request a.face.name) (response_name a.face.name) (device_node top.merged i (0 + a.number)) → AtRequest top i d c
    by (at_request n o s) =
        let node = device_node_is top i (0 + a.number) n o in
        let q : (own_link top.merged n).request ≡ (own_link top.merged d).request = net_same _ _ (sym (ap (λ (x : Connection). x.value) s) ∙ e) in
        let same = one_request top apart n d node.0.0 is.0 (device_has_link top n node.0) (device_has_link top d is) q in
        let number : 0 + a.number ≡ a.number = omega arith in
        record { number = a.number; face = a.face; face_is = a.face_is; end_is = sym (ap (end_of top.merged) same) ∙ (node.1 ∙ ap (Face i) number); connection_is = s ∙ ap (λ m. connection (face_request a.face.name) (net (own_link top.merged m).request)) same }
    by (at_response n o s) = absurd (no_own_response top n d (net_same _ _ (sym (ap (λ (x : Connection). x.value) s) ∙ e)))

  at_host : (i : ℕ) (c : Connection) → c.value ≡ net (own_link top.merged d).request → AtHostFace top i c → ⊥
  at_host i c e a = by a.to_link where
    by : ToLink top c a.request a.response (host_node top.merged i a.number) → ⊥
    by (at_request n o s) = let node = host_node_is top i a.number n o in no_host n node.0 (host_face_has n i a.number node.0 node.1) (net_same _ _ (sym (ap (λ (x : Connection). x.value) s) ∙ e))
    by (at_response n o s) = no_own_response top n d (net_same _ _ (sym (ap (λ (x : Connection). x.value) s) ∙ e))

  -- a net whose name begins with this letter
  other : (port : List ℕ) (letter : ℕ) (rest : List ℕ) → (letter ≡ 120 → ⊥) → IsOther (connection port (net (letter ∷ rest)))
  other port letter rest no_x = record { letter = letter; rest = rest; value_is = refl; no_x = no_x }

  -- interrupts, alerts and pins
  nets_other : (name : List ℕ) (b : LaidBlock) (c : Connection) → Among c (net_connections name b) → IsOther c
  nets_other name b c a = first (in_parts c (map (interrupt_connection name) b.desc.intrs) _ a) where
    third : Among c (map (pin_input_connection name) (input_pins b)) ⊎ Among c (map (pin_output_connection name) (output_pins b)) → IsOther c
    third (inl x) = let h = from_map (pin_input_connection name) (input_pins b) c x in subst IsOther (sym h.2) (other _ 112 _ (λ e. omega (arith, e)))
    third (inr x) = let h = from_map (pin_output_connection name) (output_pins b) c x in subst IsOther (sym h.2) (other _ 112 _ (λ e. omega (arith, e)))

    second : Among c (map (alert_connection name) b.desc.alerts) ⊎ Among c (map (pin_input_connection name) (input_pins b) ++ map (pin_output_connection name) (output_pins b)) → IsOther c
    second (inl x) = let h = from_map (alert_connection name) b.desc.alerts c x in subst IsOther (sym h.2) (other _ 97 _ (λ e. omega (arith, e)))
    second (inr x) = third (in_parts c (map (pin_input_connection name) (input_pins b)) _ x)

    first : Among c (map (interrupt_connection name) b.desc.intrs)
        ⊎ Among c (map (alert_connection name) b.desc.alerts ++ (map (pin_input_connection name) (input_pins b) ++ map (pin_output_connection name) (output_pins b))) → IsOther c
    first (inl x) = let h = from_map (interrupt_connection name) b.desc.intrs c x in subst IsOther (sym h.2) (other _ 105 _ (λ e. omega (arith, e)))
    first (inr x) = second (in_parts c (map (alert_connection name) b.desc.alerts) _ x)

  pub block_request : (i : ℕ) (c : Connection) → Among c (instance_connections top i) → c.value ≡ net (own_link top.merged d).request → AtRequest top i d c
  block_request i c a e = first (in_parts c (instance_ties top.ties i) _ a) where
    b : LaidBlock
    b = block_of top.merged i

    third : Among c (host_connections top.merged i 0 b.desc.hosts) ⊎ Among c (net_connections (instance_of top.merged i).name b) → AtRequest top i d c
    third (inl x) = absurd (at_host i c e (host_gives top i 0 b.desc.hosts c x))
    third (inr x) = absurd (other_value top d c (nets_other (instance_of top.merged i).name b c x) e)

    second : Among c (face_connections top.merged i 0 b.faces) ⊎ Among c (host_connections top.merged i 0 b.desc.hosts ++ net_connections (instance_of top.merged i).name b) → AtRequest top i d c
    second (inl x) = at_face i c e (face_gives top i 0 b.faces c x)
    second (inr x) = third (in_parts c (host_connections top.merged i 0 b.desc.hosts) _ x)

    first : Among c (instance_ties top.ties i)
        ⊎ Among c (face_connections top.merged i 0 b.faces ++ (host_connections top.merged i 0 b.desc.hosts ++ net_connections (instance_of top.merged i).name b)) → AtRequest top i d c
    first (inl x) = absurd (other_value top d c (tied_other top.ties i c x) e)
    first (inr x) = second (in_parts c (face_connections top.merged i 0 b.faces) _ x)

-- ---- connections of an instance of a crossbar

-- a node's link at its crossbar is some node's own
pub own_by : (top : Built) (n : NodeId) (host : Bool) (e : NodeEnd) → (m : NodeId) × (joined_link top.merged n host e ≡ own_link top.merged m)
own_by top n true (Xbar x) = by (outer_device top.merged x n.xbar) where
  by : (o : Option NodeId) → (m : NodeId) × (or_own (own_link top.merged n) top.merged o ≡ own_link top.merged m)
  by None = (n, refl)
  by (Some d) = (d, refl)
own_by top n true (Face i f) = (n, refl)
own_by top n true (Host i f) = (n, refl)
own_by top n true Outside = (n, refl)
own_by top n false e = (n, refl)

-- The host's request of the crossbar that the device stands for, and its connection.
pub record AtInner (top : Built) (y : ℕ) (d : NodeId) (c : Connection) : Type 0 where
  pub host : NodeId
  pub is_host : IsHost top.merged host
  pub xbar_is : host.xbar ≡ y
  pub end_is : end_of top.merged host ≡ Xbar d.xbar
  pub outer_is : end_of top.merged d ≡ Xbar y
  pub connection_is : c ≡ connection (port_link top.merged host).request (net (link_of top.merged host).request)

module _ (top : Built) (merged : IsJoined top.merged) (apart : NamesDiffer top) (d : NodeId) (is : IsDevice top.merged d) where
  clock_no_request : (x : List ℕ) (c : Connection) → c.name ≡ codes "c_" ++ x → is_host_request c.name ≡ true → ⊥
  clock_no_request x c e r = let no : is_host_request c.name ≡ false = ap is_host_request e in absurd (cc)

  device_no_request : (n : NodeId) → IsDevice top.merged n → is_host_request (port_link top.merged n).request ≡ true → ⊥
  device_no_request n device r = let no : is_host_request (port_link top.merged n).request ≡ false = rw device.1 refl in absurd (cc)

  link_gives : (n : NodeId) → IsHost top.merged n → (e : NodeEnd) → end_of top.merged n ≡ e → (joined_link top.merged n true e).request ≡ (own_link top.merged d).request
      → (end_of top.merged n ≡ Xbar d.xbar) × (end_of top.merged d ≡ Xbar n.xbar)
  link_gives n host (Xbar x) e q =
      let o = merged.outer_given n x host e in
      let found = outer_device_is top x n.xbar o.0 o.1 in
      let theirs : (own_link top.merged o.0).request ≡ (own_link top.merged d).request = ap (λ (z : Option NodeId). (or_own (own_link top.merged n) top.merged z).request) (sym o.1) ∙ q in
      let same = one_request top apart o.0 d found.0.0 is.0 (device_has_link top o.0 found.0) (device_has_link top d is) theirs in
      (e ∙ ap Xbar (sym found.1 ∙ ap (λ (m : NodeId). m.xbar) same), sym (ap (end_of top.merged) same) ∙ found.2)
  link_gives n host (Face i f) e q = absurd (no_host top merged apart d is n host (rw (host.1, e) tt) q)
  link_gives n host (Host i f) e q = absurd (no_host top merged apart d is n host (rw (host.1, e) tt) q)
  link_gives n host Outside e q = absurd (no_host top merged apart d is n host (rw (host.1, e) tt) q)

  at_node : (y : ℕ) (c : Connection) (n : NodeId) → Among n (nodes_in top.merged y) → (host : Bool) → is_host top.merged n ≡ host → Among c (node_connections top.merged n) → is_host_request c.name ≡ true
      → c.value ≡ net (own_link top.merged d).request → AtInner top y d c
  at_node y c n a false h (inl e) r q = absurd (device_no_request n (node_of_all top.merged y n a, h) (subst (λ (z : Connection). is_host_request z.name ≡ true) e r))
  at_node y c n a true h (inl e) r q =
      let mine : (link_of top.merged n).request ≡ (own_link top.merged d).request = net_same _ _ (sym (ap (λ (z : Connection). z.value) e) ∙ q) in
      let host : IsHost top.merged n = (node_of_all top.merged y n a, h) in
      let ends = link_gives n host (end_of top.merged n) refl (ap (λ b. (joined_link top.merged n b (end_of top.merged n)).request) (sym h) ∙ mine) in
      let here = node_xbar top.merged y n a in
      record { host = n; is_host = host; xbar_is = here; end_is = ends.0; outer_is = ends.1 ∙ ap Xbar here; connection_is = e }
  at_node y c n a host h (inr (inl e)) r q =
      let own = own_by top n (is_host top.merged n) (end_of top.merged n) in
      absurd (no_own_response top own.0 d (ap (λ (l : Link). l.response) (sym own.1) ∙ net_same _ _ (sym (ap (λ (z : Connection). z.value) e) ∙ q)))
  at_node y c n a host h (inr (inr e)) r q = absurd e

  pub crossbar_request : (y : ℕ) (c : Connection) → Among c (crossbar_connections top y) → is_host_request c.name ≡ true → c.value ≡ net (own_link top.merged d).request → AtInner top y d c
  crossbar_request y c a r q = by (in_parts c (crossbar_ties top.ties y) _ a) where
    by : Among c (crossbar_ties top.ties y) ⊎ Among c (flat_map (node_connections top.merged) (ordered_in top.merged y)) → AtInner top y d c
    by (inl b) = let h = from_map crossbar_clock (filter (λ t. is_listed y t.owner) top.ties) c b in absurd (clock_no_request h.0.port c (ap (λ (z : Connection). z.name) h.2) r)
    by (inr b) = let h = from_each (node_connections top.merged) (ordered_in top.merged y) c b in at_node y c h.0 (among h.0 (in_parts h.0 _ _ h.1)) (is_host top.merged h.0) refl h.2 r q where
      among : (n : NodeId) → Among n (filter (is_host top.merged) (nodes_in top.merged y)) ⊎ Among n (filter (λ n. not (is_host top.merged n)) (nodes_in top.merged y)) → Among n (nodes_in top.merged y)
      among n (inl z) = (from_those (is_host top.merged) (nodes_in top.merged y) n z).0
      among n (inr z) = (from_those (λ n. not (is_host top.merged n)) (nodes_in top.merged y) n z).0
