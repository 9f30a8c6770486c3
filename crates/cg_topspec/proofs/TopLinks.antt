-- Where the way goes on from a device's link in the top module.
use Rattle.std.proofs.Common.{Bool, List, None, Option, Some, [], ap, arith, codes, cond, false, flat_map, inl, length, map, refl, slice_get, subst, suc, sym, true, ℕ, ◌&&◌, ◌++◌, ◌+◌, ◌-◌, ◌<◌, ◌∙◌, ◌∷◌, ◌≡◌}
use Rattle.std.proofs.lemmas.List.{length-map, map-append}
use Rattle.cg_busspec.specs.CrossbarModule.{connection}
use Rattle.cg_desc.specs.declared.top.NodeEnd.{NodeEnd}
use Rattle.cg_desc.specs.declared.top.NodeEnd.TheVariants.{Face, Host, Outside, Xbar}
use Rattle.cg_svspec.specs.Bits.{Bits}
use Rattle.cg_svspec.specs.Links.{Link, answer_to, comes_in, host_link, is_host_request, link, spelled}
use Rattle.cg_svspec.specs.Names.{Among, entry_names, is_among, port_names}
use Rattle.cg_svspec.specs.Tree.{Connection, Entry, Module, Parameter, inst, net}
use Rattle.cg_svspec.specs.Value.{connection_at}
use Rattle.cg_svspec.specs.Walk.{Position, arrival, arrive, arrive_at, between, connection_number, counts_at, enter, interface_of, is_bare, is_some_module, met, module_named, next, on, out_at, position, within}
use Rattle.cg_svspec.specs.WellFormed.{outputs_of}
use Rattle.cg_topspec.proofs.Arrivals.{Skips, arrives_here, bare_is, bare_itself, bare_none, connection_found, counting_length, counting_split, no_number, no_output, not_bare, one_number, skip_all, skips_instance}
use Rattle.cg_topspec.proofs.Built.{Built, HasCrossbars, IsDevice, IsHost, IsJoined, Joined, NamesApart, crossbar_connections, crossbar_entry, instance_connections, instance_entry, top_module, top_nets}
use Rattle.cg_topspec.proofs.Entries.{nets_all}
use Rattle.cg_topspec.proofs.ListLemmas.{from_counting, from_map, in_back, in_each}
use Rattle.cg_topspec.proofs.Nets.{NamesDiffer, among_entries, answer_of_request, port_or_wire}
use Rattle.cg_topspec.proofs.Nodes.{inner_host_is, node_in_range}
use Rattle.cg_topspec.proofs.Texts.{ends_itself}
use Rattle.cg_topspec.proofs.TopConnections.{AtInner, block_request, crossbar_request}
use Rattle.cg_topspec.proofs.TopNets.{crossbar_number, crossbar_there, host_port_is, node_among, node_connected}
use Rattle.cg_topspec.proofs.Whole.{entries_of_top, names_of_top, ports_of_top}
use Rattle.cg_topspec.specs.Nets.{link_of, own_link}
use Rattle.cg_topspec.specs.Top.{NodeId, block_of, counting, crossbar_of, end_of, inner_host, instance_of, node_of, ordered_in, outer_device}
use Rattle.cg_topspec.specs.TopModule.{address_width, crossbar_module_name, crossbar_ties, end_wires, node_connections, node_wires, port_link}

pub next_between : (first : Module) (ms : List Module) (request : Bits) (way : List Position) (l : Link)
    → next (first ∷ ms) request way (position between l) ≡ cond (is_among (outputs_of first.ports) l.request) (out_at first l) (arrive (first ∷ ms) first l (arrival (first ∷ ms) l.request 0 first.entries))
unfolding next
next_between first ms request way l = refl

-- a device in the top has its link as wires
wire_by : (e : NodeEnd) (l : Link) → (e ≡ Outside → ⊥) → Among l.request (entry_names (end_wires false l e))
wire_by Outside l h = absurd (h refl)
wire_by (Xbar x) l h = inl refl
wire_by (Face i f) l h = inl refl
wire_by (Host i f) l h = inl refl

pub is_no_output : (top : Built) → NamesDiffer top → (d : NodeId) → IsDevice top.merged d → (end_of top.merged d ≡ Outside → ⊥) → is_among (outputs_of (top_module top).ports) (own_link top.merged d).request ≡ false
is_no_output top apart d is inner =
    let q = (own_link top.merged d).request in
    let wired : Among q (entry_names (node_wires top.merged d)) = rw is.1 (wire_by (end_of top.merged d) (own_link top.merged d) inner) in
    no_output (top_module top).ports q (λ a. port_or_wire top apart q (subst (λ ps. Among q (port_names ps)) (ports_of_top top) a) (among_entries top d q is.0 wired))

-- ---- entries at which no device's net stands

pub skips_nets : (mods : List Module) (q : List ℕ) (top : Built) (e : Entry) → Among e (top_nets top) → Skips mods q e
skips_nets mods q top e a = nets_all (Skips mods q) (λ w n i es. refl) (λ w n x i es. refl) (λ n x i es. refl) top e a

-- the first entry that does not skip the net
pub found_entry : (mods : List Module) (q : List ℕ) (xs ys : List Entry) (i : ℕ) (m : List ℕ) (ps : List Parameter) (n : List ℕ) (cs : List Connection) (j : ℕ)
    → ((e : Entry) → Among e xs → Skips mods q e) → connection_number (counts_at (is_some_module (module_named mods m))) q cs 0 cs ≡ Some j
    → arrival mods q i (xs ++ (inst m ps n cs ∷ ys)) ≡ Some (i + length xs, j)
found_entry mods q xs ys i m ps n cs j skips at = skip_all mods q xs (inst m ps n cs ∷ ys) i skips ∙ arrives_here mods q m ps n cs (i + length xs) j ys at

-- numbered entries before one, it, and those after it
pub numbered_split : {A : Type 0} (f : ℕ → A) (n k : ℕ) → k < n → map f (counting 0 n) ≡ map f (counting 0 k) ++ (f k ∷ map f (counting (suc k) (n - suc k)))
numbered_split f n k h =
    let zero_less : 0 + k ≡ k = omega arith in
    ap (map f) (counting_split 0 n k h ∙ ap (λ z. counting 0 k ++ (z ∷ counting (suc z) (n - suc k))) zero_less) ∙ map-append f (counting 0 k) (k ∷ counting (suc k) (n - suc k))

pub some_same : {A : Type 0} (a b : A) → Some a ≡ Some b → a ≡ b
some_same a b e = cc

pub to_same : (l m r s : List ℕ) → l ≡ r → m ≡ s → connection l (net m) ≡ connection r (net s)
to_same l m r s e f = rw (e, f) refl

abbrev pub some_pair : ℕ → ℕ → Option (ℕ × ℕ)
some_pair a b = Some (a, b)

pub pair_same : (a b c d : ℕ) → a ≡ c → b ≡ d → some_pair a b ≡ some_pair c d
pair_same a b c d e f = rw (e, f) refl

enter_here : (i : ℕ) (x : Module) (cs : List Connection) (l h : Link) → comes_in x h ≡ true → is_bare (connection_at h.response cs) l.response ≡ true → enter i x cs l h ≡ on (position (within i) h)
enter_here i x cs l h a b = rw (a, b) refl

-- at a connection of a crossbar's instance
arrive_crossbar : (mods : List Module) (i j : ℕ) (l : Link) (m : List ℕ) (ps : List Parameter) (n : List ℕ) (cs : List Connection) (x : Module) (c : Connection)
    → module_named mods m ≡ Some x → slice_get cs j ≡ Some c → arrive_at mods i j l (Some (inst m ps n cs)) ≡ enter i x cs l (link c.name (answer_to c.name))
arrive_crossbar mods i j l m ps n cs x c e f = rw (e, f) refl

-- at a connection of another instance
pub arrive_block : (mods : List Module) (i j : ℕ) (l : Link) (m : List ℕ) (ps : List Parameter) (n : List ℕ) (cs : List Connection) (c : Connection)
    → module_named mods m ≡ None → slice_get cs j ≡ Some c → arrive_at mods i j l (Some (inst m ps n cs)) ≡ met i j m ps cs (interface_of c.name)
arrive_block mods i j l m ps n cs c e f = rw (e, f) refl

-- from a net that is no output of the first module
pub arrives_by : (first : Module) (ms : List Module) (request : Bits) (way : List Position) (l : Link) (i j : ℕ) (e : Entry)
    → is_among (outputs_of first.ports) l.request ≡ false → arrival (first ∷ ms) l.request 0 first.entries ≡ Some (i, j) → slice_get first.entries i ≡ Some e
    → next (first ∷ ms) request way (position between l) ≡ arrive_at (first ∷ ms) i j l (Some e)
arrives_by first ms request way l i j e no_out at entry = next_between first ms request way l ∙ rw (no_out, at, entry) refl

-- one thing is not both
apart_ends : (i f y : ℕ) → Face i f ≡ Xbar y → ⊥
apart_ends i f y e = let no : true ≡ false = ap is_face e in absurd (cc) where
  is_face : NodeEnd → Bool
  is_face (Face i f) = true
  is_face _ = false

never_outside : (y : ℕ) → Xbar y ≡ Outside → ⊥
never_outside y e = let no : true ≡ false = ap is_one e in absurd (cc) where
  is_one : NodeEnd → Bool
  is_one (Xbar y) = true
  is_one _ = false

apart_numbers : (x y : ℕ) → x < y → Xbar x ≡ Xbar y → ⊥
apart_numbers x y less e = let same : x ≡ y = cc in omega (arith, same, less)

and_no : (a b : Bool) → b ≡ false → (a && b) ≡ false
and_no true b e = e
and_no false b e = refl

and_yes : (a b : Bool) → (a && b) ≡ true → (a ≡ true) × (b ≡ true)
and_yes true b e = (refl, e)
and_yes false b e = cc

module _ (top : Built) (merged : IsJoined top.merged) (names : NamesApart top) (ms : List Module) (there : HasCrossbars top ms) (d : NodeId) (is : IsDevice top.merged d) where
  -- the device is no interface of this instance
  pub skips_block : (i : ℕ) → ((f : ℕ) → end_of top.merged d ≡ Face i f → ⊥) → Skips (top_module top ∷ ms) (own_link top.merged d).request (instance_entry top i)
  skips_block i never =
      let b = block_of top.merged i in
      skips_instance (top_module top ∷ ms) (own_link top.merged d).request b.desc.name (map address_width b.faces) (codes "u_" ++ (instance_of top.merged i).name) (instance_connections top i)
      (no_number (counts_at (is_some_module (module_named (top_module top ∷ ms) b.desc.name))) (own_link top.merged d).request (instance_connections top i) 0 (instance_connections top i)
      (λ c a. and_no _ _ (bare_none (instance_connections top i) c.name (own_link top.merged d).request
      (λ g b_in same. not_bare g.value (own_link top.merged d).request (λ v. let h = block_request top merged (names_of_top top names) d is i g b_in v in never h.number h.end_is)))))

  -- the device does not stand for this crossbar
  skips_crossbar : (y : ℕ) → y < length top.merged.xbars → (end_of top.merged d ≡ Xbar y → ⊥) → Skips (top_module top ∷ ms) (own_link top.merged d).request (crossbar_entry top y)
  skips_crossbar y less never =
      skips_instance (top_module top ∷ ms) (own_link top.merged d).request (crossbar_module_name top.merged y) [] (codes "u_xbar_" ++ (crossbar_of top.merged y).name) (crossbar_connections top y)
      (ap (λ o. connection_number (counts_at (is_some_module o)) (own_link top.merged d).request (crossbar_connections top y) 0 (crossbar_connections top y)) (there.named y less)
      ∙ (no_number (counts_at true) (own_link top.merged d).request (crossbar_connections top y) 0 (crossbar_connections top y)
      (λ c a. by c (is_host_request c.name) refl))) where
        by : (c : Connection) (b : Bool) → is_host_request c.name ≡ b → (b && is_bare (connection_at c.name (crossbar_connections top y)) (own_link top.merged d).request) ≡ false
        by c false e = refl
        by c true e = bare_none (crossbar_connections top y) c.name (own_link top.merged d).request
            (λ g g_in same. not_bare g.value (own_link top.merged d).request
            (λ v. let h = crossbar_request top merged (names_of_top top names) d is y g g_in (ap is_host_request same ∙ e) v in never h.outer_is))

  -- ---- at a crossbar

  host_connection : (k : NodeId) → IsHost top.merged k → end_of top.merged k ≡ Xbar d.xbar → outer_device top.merged d.xbar k.xbar ≡ Some d → link_of top.merged k ≡ own_link top.merged d
  host_connection k host e found = rw (host.1, e, found) refl

  is_host_port : (name : List ℕ) → is_host_request (host_link name).request ≡ true
  is_host_port name = ends_itself (codes "h_" ++ spelled name) (codes "_req")

  -- a connection that counts and has the device's net, by its own value
  counted : (y : ℕ) → y < length top.merged.xbars → (c : Connection) → Among c (crossbar_connections top y)
      → (is_host_request c.name && is_bare (connection_at c.name (crossbar_connections top y)) (own_link top.merged d).request) ≡ true → AtInner top y d c
  counted y less c a e =
      let both = and_yes _ _ e in
      let value : connection_at c.name (crossbar_connections top y) ≡ Some c.value = connection_found (crossbar_connections top y) (names.crossbar_ports y less) c a in
      crossbar_request top merged (names_of_top top names) d is y c a both.0 (bare_is c.value (own_link top.merged d).request (subst (λ o. is_bare o (own_link top.merged d).request ≡ true) value both.1))

  -- the entry and the connection at which the device's net arrives
  record AtCrossbar (k : NodeId) : Type 0 where
    number : ℕ
    arrival_is : arrival (top_module top ∷ ms) (own_link top.merged d).request 0 (top_module top).entries ≡ Some (crossbar_number top k.xbar, number)
    connection_is : slice_get (crossbar_connections top k.xbar) number ≡ Some (connection (host_link (node_of top.merged k).name).request (net (own_link top.merged d).request))

  at_crossbar : (k : NodeId) → IsHost top.merged k → end_of top.merged d ≡ Xbar k.xbar → inner_host top.merged d.xbar k.xbar ≡ Some k → AtCrossbar k
  at_crossbar k host to_inner joined =
      let y = k.xbar in
      let less : y < length top.merged.xbars = node_in_range top.merged k host.0 in
      let q = (own_link top.merged d).request in
      let mods = top_module top ∷ ms in
      let theirs = inner_host_is top.merged d.xbar y k joined in
      let link : link_of top.merged k ≡ own_link top.merged d = host_connection k host theirs.2 (merged.outer_found d y is to_inner) in
      let port = host_port_is top k host in
      let given : connection_at (host_link (node_of top.merged k).name).request (crossbar_connections top y) ≡ Some (net q) =
      ap (λ (l : Link). connection_at l.request (crossbar_connections top y)) (sym port) ∙ ((node_connected top names k host.0).0 ∙ ap (λ (l : Link). Some (net l.request)) link) in
      let c = connection (host_link (node_of top.merged k).name).request (net q) in
      let inside : Among c (crossbar_connections top y) = in_back c (crossbar_ties top.ties y) (flat_map (node_connections top.merged) (ordered_in top.merged y))
      (in_each (node_connections top.merged) (ordered_in top.merged y) k c (node_among top k host.0) (inl (to_same _ _ _ _ (ap (λ (l : Link). l.request) (sym port)) (ap (λ (l : Link). l.request) (sym link))))) in
      let counts : (is_host_request (host_link (node_of top.merged k).name).request && is_bare (connection_at (host_link (node_of top.merged k).name).request (crossbar_connections top y)) q) ≡ true =
      rw (is_host_port (node_of top.merged k).name, given) (bare_itself q) in
      let found = one_number (counts_at true) q (crossbar_connections top y) 0 (crossbar_connections top y) c inside counts
      (λ e e_in e_counts. let a = counted y less e e_in e_counts in
      let same : a.host ≡ k = some_same _ _ (sym (merged.inner_found a.host d.xbar a.is_host a.end_is) ∙ (ap (inner_host top.merged d.xbar) a.xbar_is ∙ joined)) in
      a.connection_is ∙ to_same _ _ _ _ (ap (λ n. (port_link top.merged n).request) same ∙ ap (λ (l : Link). l.request) port) (ap (λ n. (link_of top.merged n).request) same ∙ ap (λ (l : Link). l.request) link)) in
      let at : connection_number (counts_at (is_some_module (module_named mods (crossbar_module_name top.merged y)))) q (crossbar_connections top y) 0 (crossbar_connections top y) ≡ Some (0 + found.0) =
      ap (λ o. connection_number (counts_at (is_some_module o)) q (crossbar_connections top y) 0 (crossbar_connections top y)) (there.named y less) ∙ found.1 in
      let zero_less : 0 + found.0 ≡ found.0 = omega arith in
      let size : length (map (crossbar_entry top) (counting 0 y)) ≡ y = length-map (counting 0 y) (crossbar_entry top) ∙ counting_length 0 y in
      let place : (0 + length (top_nets top)) + length (map (instance_entry top) (counting 0 (length top.merged.top.insts))) + length (map (crossbar_entry top) (counting 0 y)) ≡ crossbar_number top y = omega (arith, size) in
      record {
        number = found.0;
        arrival_is =
            ap (arrival mods q 0) (entries_of_top top)
            ∙ (skip_all mods q (top_nets top) _ 0 (skips_nets mods q top)
            ∙ (skip_all mods q (map (instance_entry top) (counting 0 (length top.merged.top.insts))) _ _
            (λ e a. let h = from_map (instance_entry top) (counting 0 (length top.merged.top.insts)) e a in
            subst (Skips mods q) (sym h.2) (skips_block h.0 (λ f s. apart_ends h.0 f y (sym s ∙ to_inner))))
            ∙ (ap (arrival mods q _) (numbered_split (crossbar_entry top) (length top.merged.xbars) y less)
            ∙ (found_entry mods q (map (crossbar_entry top) (counting 0 y)) _ _ (crossbar_module_name top.merged y) [] (codes "u_xbar_" ++ (crossbar_of top.merged y).name) (crossbar_connections top y) (0 + found.0)
            (λ e a. let h = from_map (crossbar_entry top) (counting 0 y) e a in let r = from_counting 0 y h.0 h.1 in
            subst (Skips mods q) (sym h.2) (skips_crossbar h.0 (omega (arith, r.1, less)) (λ s. apart_numbers h.0 y (omega (arith, r.1)) (sym s ∙ to_inner)))) at
            ∙ pair_same _ _ _ _ place zero_less))));
        connection_is = found.2;
      }

  -- From the device's link the way goes on into the crossbar that it stands for, over that one's host's link.
  pub joins : (k : NodeId) → Joined top.merged d k → (request : Bits) (way : List Position)
      → next (top_module top ∷ ms) request way (position between (own_link top.merged d)) ≡ on (position (within (crossbar_number top k.xbar)) (host_link (node_of top.merged k).name))
  joins k j request way =
      let theirs = inner_host_is top.merged d.xbar j.0 k j.2 in
      let host = theirs.0 in
      let y = k.xbar in
      let less : y < length top.merged.xbars = node_in_range top.merged k host.0 in
      let to_inner : end_of top.merged d ≡ Xbar y = j.1 ∙ ap Xbar (sym theirs.1) in
      let joined : inner_host top.merged d.xbar y ≡ Some k = ap (inner_host top.merged d.xbar) theirs.1 ∙ j.2 in
      let at = at_crossbar k host to_inner joined in
      let name = (node_of top.merged k).name in
      let answer : link (host_link name).request (answer_to (host_link name).request) ≡ host_link name = ap (link (host_link name).request) (answer_of_request (codes "h_" ++ spelled name)) in
      let link_is : link_of top.merged k ≡ own_link top.merged d = host_connection k host theirs.2 (merged.outer_found d y is to_inner) in
      let back : connection_at (host_link name).response (crossbar_connections top y) ≡ Some (net (own_link top.merged d).response) =
      ap (λ (l : Link). connection_at l.response (crossbar_connections top y)) (sym (host_port_is top k host)) ∙ ((node_connected top names k host.0).1 ∙ ap (λ (l : Link). Some (net l.response)) link_is) in
      arrives_by (top_module top) ms request way (own_link top.merged d) (crossbar_number top y) at.number (crossbar_entry top y)
      (is_no_output top (names_of_top top names) d is (λ e. never_outside y (sym to_inner ∙ e))) at.arrival_is (crossbar_there top y less)
      ∙ (arrive_crossbar (top_module top ∷ ms) (crossbar_number top y) at.number (own_link top.merged d) (crossbar_module_name top.merged y) [] (codes "u_xbar_" ++ (crossbar_of top.merged y).name) (crossbar_connections top y)
      (there.module_of y) (connection (host_link name).request (net (own_link top.merged d).request)) (there.named y less) at.connection_is
      ∙ (ap (enter (crossbar_number top y) (there.module_of y) (crossbar_connections top y) (own_link top.merged d)) answer
      ∙ enter_here (crossbar_number top y) (there.module_of y) (crossbar_connections top y) (own_link top.merged d) (host_link name)
      ((there.is y less).comes k host refl) (ap (λ o. is_bare o (own_link top.merged d).response) back ∙ bare_itself (own_link top.merged d).response)))
