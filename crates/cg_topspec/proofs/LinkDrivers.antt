-- Instances drive just the nets of links that are wires, and the outputs of nodes outside.
use Rattle.std.proofs.Common.{Bool, List, None, Option, Some, [], ap, arith, false, length, not, refl, subst, suc, sym, true, ℕ, ◌&&◌, ◌+◌, ◌∙◌, ◌∷◌, ◌≡◌}
use Rattle.cg_busspec.specs.CrossbarModule.{connection}
use Rattle.cg_desc.specs.Merged.{IsMerged}
use Rattle.cg_desc.specs.Reach.{IsPlain}
use Rattle.cg_desc.specs.declared.block.HostFace.{HostFace}
use Rattle.cg_desc.specs.declared.block.LaidFace.{LaidFace}
use Rattle.cg_desc.specs.declared.top.NodeEnd.{NodeEnd}
use Rattle.cg_desc.specs.declared.top.NodeEnd.TheVariants.{Face, Host, Outside, Xbar}
use Rattle.cg_svspec.specs.Links.{Link, device_link, host_link, spelled}
use Rattle.cg_svspec.specs.Names.{is_among}
use Rattle.cg_svspec.specs.Tree.{net}
use Rattle.cg_svspec.specs.Walk.{response_name}
use Rattle.cg_svspec.specs.WellFormed.{is_part}
use Rattle.cg_topspec.proofs.Built.{Built, IsDevice, IsHost, IsNode, top_inputs}
use Rattle.cg_topspec.proofs.Driving.{at, device_request_gives, device_response_keeps, drives_not, drives_this, face_request_keeps, face_response_gives, gives, gives_join, host_face_request_gives, host_face_response_keeps, host_request_keeps, host_response_gives, is_giving}
use Rattle.cg_topspec.proofs.EntryCounts.{outputs, plains}
use Rattle.cg_topspec.proofs.FreeNets.{device_request_free, device_response_free, host_request_free, host_response_free}
use Rattle.cg_topspec.proofs.Merges.{device_ends, host_ends, outer_given}
use Rattle.cg_topspec.proofs.Nets.{NamesDiffer}
use Rattle.cg_topspec.proofs.NodeSums.{faces_by_nodes, hosts_by_nodes, is_any_crossbar, is_any_face, is_any_host, total_faces}
use Rattle.cg_topspec.proofs.PairSums.{from_outer, pairs_by_nodes}
use Rattle.cg_topspec.proofs.TopConnections.{device_node_is, host_node_is, outer_device_is}
use Rattle.cg_topspec.proofs.TopNets.{device_link_is}
use Rattle.cg_topspec.proofs.Totals.{count_if, if_any, total, total_same, total_sum}
use Rattle.cg_topspec.specs.Nets.{joined_link, link_of, own_link}
use Rattle.cg_topspec.specs.Top.{NodeId, all_nodes, block_of, counting, device_node, end_of, host_node, is_host, node_of, outer_device}
use Rattle.cg_topspec.specs.TopModule.{end_ports, end_wires, face_connections, face_request, host_connections, host_face_request, host_face_response, joined_at, link_connections, node_connections, node_ports, node_wires, port_link}

add_nothing : (k : ℕ) → k + 0 ≡ k
add_nothing k = omega arith

module _ (top : Built) (merged : IsMerged top.merged) (names : NamesDiffer top) (n : List ℕ) where
  -- how often the net is that of the node's request, and of its response
  abbrev pub request_at : NodeId → ℕ
  request_at k = at n (own_link top.merged k).request

  abbrev pub response_at : NodeId → ℕ
  response_at k = at n (own_link top.merged k).response

  -- ---- instances of blocks

  module _ (part : List ℕ) (other : is_part part ≡ false) (i : ℕ) where
    face_gives_one : (request response : List ℕ) → is_giving request ≡ false → is_giving response ≡ true → (f : ℕ) (o : Option NodeId)
        → device_node top.merged i f ≡ o
        → gives n (top_inputs top) part (joined_at top.merged request response o) ≡ if_any response_at o
    face_gives_one request response keeps out f None e = refl
    face_gives_one request response keeps out f (Some d) e =
        let is = device_node_is top i f d e in
        let free = device_response_free top names d is.0 (λ u. let no : Face i f ≡ Outside = sym is.1 ∙ u in cc) in
        drives_not n (top_inputs top) part other request (own_link top.merged d).request (connection response (net (own_link top.merged d).response) ∷ []) keeps
        ∙ (drives_this n (top_inputs top) part other response (own_link top.merged d).response [] out free ∙ add_nothing (response_at d))

    pub faces_give : (f : ℕ) (faces : List LaidFace) → gives n (top_inputs top) part (face_connections top.merged i f faces)
        ≡ total (λ g. if_any response_at (device_node top.merged i g)) (counting f (length faces))
    faces_give f [] = refl
    faces_give f (face ∷ faces) =
        gives_join n (top_inputs top) part other (joined_at top.merged (face_request face.name) (response_name face.name) (device_node top.merged i f))
        (face_connections top.merged i (suc f) faces)
        ∙ rw (
          face_gives_one (face_request face.name) (response_name face.name) (face_request_keeps face.name) (face_response_gives face.name) f
              (device_node top.merged i f) refl,
          faces_give (suc f) faces,
        ) refl

    host_gives_one : (request response : List ℕ) → is_giving request ≡ true → is_giving response ≡ false → (f : ℕ) (o : Option NodeId)
        → host_node top.merged i f ≡ o
        → gives n (top_inputs top) part (joined_at top.merged request response o) ≡ if_any request_at o
    host_gives_one request response out keeps f None e = refl
    host_gives_one request response out keeps f (Some h) e =
        let is = host_node_is top i f h e in
        drives_this n (top_inputs top) part other request (own_link top.merged h).request
        (connection response (net (own_link top.merged h).response) ∷ []) out (host_request_free top names h i f is.0 is.1)
        ∙ (ap (λ k. request_at h + k) (drives_not n (top_inputs top) part other response (own_link top.merged h).response [] keeps) ∙ add_nothing
        (request_at h))

    pub hosts_give : (f : ℕ) (faces : List HostFace) → gives n (top_inputs top) part (host_connections top.merged i f faces)
        ≡ total (λ g. if_any request_at (host_node top.merged i g)) (counting f (length faces))
    hosts_give f [] = refl
    hosts_give f (face ∷ faces) =
        gives_join n (top_inputs top) part other (joined_at top.merged (host_face_request face.name) (host_face_response face.name)
        (host_node top.merged i f)) (host_connections top.merged i (suc f) faces)
        ∙ rw (
          host_gives_one (host_face_request face.name) (host_face_response face.name) (host_face_request_gives face.name)
              (host_face_response_keeps face.name) f (host_node top.merged i f) refl,
          hosts_give (suc f) faces,
        ) refl

  -- ---- instances of crossbars

  -- what a crossbar's instance drives for a node: a host's response, or the outer device's, and a device's request
  abbrev pub given_by : NodeId → Bool → NodeEnd → ℕ
  given_by k true (Xbar x) = if_any response_at (outer_device top.merged x k.xbar)
  given_by k true _ = response_at k
  given_by k false _ = request_at k

  link_given : (k : NodeId) → IsHost top.merged k → (e : NodeEnd) → end_of top.merged k ≡ e
      → (is_among (top_inputs top) (joined_link top.merged k true e).response ≡ false) × (at n (joined_link top.merged k true e).response ≡ given_by k true e)
  link_given k host (Face i f) e = (host_response_free top names k host (subst IsPlain (sym e) tt), refl)
  link_given k host (Host i f) e = (host_response_free top names k host (subst IsPlain (sym e) tt), refl)
  link_given k host Outside e = (host_response_free top names k host (subst IsPlain (sym e) tt), refl)
  link_given k host (Xbar x) e =
      let given = outer_given top.merged merged k x host e in
      let is = outer_device_is top x k.xbar given.0 given.1 in
      let free = device_response_free top names given.0 is.0 (λ u. let no : Xbar k.xbar ≡ Outside = sym is.2 ∙ u in cc) in
      rw (given.1) (free, refl)

  module _ (part : List ℕ) (other : is_part part ≡ false) where
    pub node_gives : (k : NodeId) → IsNode top.merged k
        → gives n (top_inputs top) part (node_connections top.merged k) ≡ given_by k (is_host top.merged k) (end_of top.merged k)
    node_gives k there = by (is_host top.merged k) refl where
      host : (h : IsHost top.merged k) → gives n (top_inputs top) part
          (link_connections (host_link (node_of top.merged k).name).request (host_link (node_of top.merged k).name).response
          (joined_link top.merged k true (end_of top.merged k)))
          ≡ given_by k true (end_of top.merged k)
      host h =
          let l = joined_link top.merged k true (end_of top.merged k) in
          let g = link_given k h (end_of top.merged k) refl in
          drives_not n (top_inputs top) part other (host_link (node_of top.merged k).name).request l.request
          (connection (host_link (node_of top.merged k).name).response (net l.response) ∷ [])
          (host_request_keeps (spelled (node_of top.merged k).name))
          ∙ (drives_this n (top_inputs top) part other (host_link (node_of top.merged k).name).response l.response []
          (host_response_gives (spelled (node_of top.merged k).name)) g.0
          ∙ add_nothing (at n l.response) ∙ g.1)

      device : (d : IsDevice top.merged k) → gives n (top_inputs top) part
          (link_connections (device_link (node_of top.merged k).name).request (device_link (node_of top.merged k).name).response (own_link top.merged k))
          ≡ request_at k
      device d =
          let l = own_link top.merged k in
          drives_this n (top_inputs top) part other (device_link (node_of top.merged k).name).request l.request
          (connection (device_link (node_of top.merged k).name).response (net l.response) ∷ [])
          (device_request_gives (spelled (node_of top.merged k).name)) (device_request_free top names k d)
          ∙ (ap (λ z. at n l.request + z) (drives_not n (top_inputs top) part other (device_link (node_of top.merged k).name).response l.response []
          (device_response_keeps (spelled (node_of top.merged k).name)))
          ∙ add_nothing (at n l.request))

      by : (b : Bool) → is_host top.merged k ≡ b
          → gives n (top_inputs top) part (node_connections top.merged k) ≡ given_by k (is_host top.merged k) (end_of top.merged k)
      by true h = rw h (host (there, h))
      by false h =
          let link : link_of top.merged k ≡ own_link top.merged k = device_link_is top k (there, h) in
          subst (λ l. gives n (top_inputs top) part (link_connections (port_link top.merged k).request (port_link top.merged k).response l) ≡ given_by k
          (is_host top.merged k) (end_of top.merged k)) (sym link)
          (rw h (device (there, h)))

  -- ---- node by node

  -- what a node's wires and ports declare for instances to drive
  abbrev pub declared_at : NodeId → ℕ
  declared_at k = plains n (node_wires top.merged k) + outputs n (node_ports top.merged k)

  -- what instances of blocks drive of a node's link, and what of the link of a device that stands for a crossbar the instance of that one does
  abbrev pub joined_of : NodeId → ℕ
  joined_of k =
      count_if (is_host top.merged k && is_any_host (end_of top.merged k)) (request_at k) +
      (count_if (not (is_host top.merged k) && is_any_face (end_of top.merged k)) (response_at k)
      + count_if (not (is_host top.merged k) && is_any_crossbar (end_of top.merged k)) (response_at k))

  node_balance : (k : NodeId) → IsNode top.merged k
      → given_by k (is_host top.merged k) (end_of top.merged k) + joined_of k ≡ declared_at k
      + count_if (is_host top.merged k) (from_outer top merged response_at k (end_of top.merged k))
  node_balance k there = by (is_host top.merged k) refl (end_of top.merged k) refl where
    l : Link
    l = own_link top.merged k

    by : (b : Bool) → is_host top.merged k ≡ b → (e : NodeEnd) → end_of top.merged k ≡ e
        → given_by k b e + (count_if (b && is_any_host e) (request_at k) +
        (count_if (not b && is_any_face e) (response_at k) + count_if (not b && is_any_crossbar e) (response_at k)))
        ≡ (plains n (end_wires b (own_link top.merged k) e) + outputs n (end_ports b (own_link top.merged k) e))
        + count_if b (from_outer top merged response_at k e)
    by true h (Face i f) e = absurd (host_ends top.merged merged k (there, h) i f e)
    by true h (Host i f) e = omega arith
    by true h (Xbar x) e = omega arith
    by true h Outside e = omega arith
    by false h (Face i f) e = omega arith
    by false h (Host i f) e = absurd (device_ends top.merged merged k (there, h) i f e)
    by false h (Xbar x) e = omega arith
    by false h Outside e = omega arith

  -- the nets of all links: what crossbars drive, and what host and device interfaces do
  pub links_balance : total (λ k. given_by k (is_host top.merged k) (end_of top.merged k)) (all_nodes top.merged)
      + (total_faces (λ i. length (block_of top.merged i).faces) (λ i f. if_any response_at (device_node top.merged i f)) (length top.merged.top.insts)
      + total_faces (λ i. length (block_of top.merged i).desc.hosts) (λ i f. if_any request_at (host_node top.merged i f)) (length top.merged.top.insts))
      ≡ total declared_at (all_nodes top.merged)
  links_balance =
      let nodes = all_nodes top.merged in
      let given : NodeId → ℕ = λ k. given_by k (is_host top.merged k) (end_of top.merged k) in
      let hosts : NodeId → ℕ = λ k. count_if (is_host top.merged k && is_any_host (end_of top.merged k)) (request_at k) in
      let faces : NodeId → ℕ = λ k. count_if (not (is_host top.merged k) && is_any_face (end_of top.merged k)) (response_at k) in
      let nested : NodeId → ℕ = λ k. count_if (not (is_host top.merged k) && is_any_crossbar (end_of top.merged k)) (response_at k) in
      let outer : NodeId → ℕ = λ k. count_if (is_host top.merged k) (from_outer top merged response_at k (end_of top.merged k)) in
      let whole : total (λ k. given k + (hosts k + (faces k + nested k))) nodes ≡ total
      (λ k. declared_at k + outer k) nodes = total_same _ _ nodes node_balance in
      sums (total given nodes) (total hosts nodes) (total faces nodes) (total nested nodes) (total declared_at nodes) (total outer nodes) _ _
      (sym (total_sum given (λ k. hosts k + (faces k + nested k)) nodes ∙ ap (λ z. total given nodes + z)
      (total_sum hosts (λ k. faces k + nested k) nodes ∙ ap (λ z. total hosts nodes + z) (total_sum faces nested nodes))) ∙ whole
      ∙ total_sum declared_at outer nodes)
      (pairs_by_nodes top merged response_at) (faces_by_nodes top.merged merged response_at) (hosts_by_nodes top.merged merged request_at)
    where
      sums : (g h f e d o x y : ℕ) → g + (h + (f + e)) ≡ d + o → o ≡ e → x ≡ f → y ≡ h → g + (x + y) ≡ d
      sums g h f e d o x y whole p q r = omega (arith, whole, p, q, r)
