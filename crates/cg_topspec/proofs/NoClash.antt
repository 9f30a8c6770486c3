-- The names of a top's module and of its instances' connections, where no list that is tested has a repeat.
use Rattle.std.proofs.Common.{cond, Bool, List, None, [], ap, arith, codes, false, filter, flat_map, inl, inr, length, map, not, refl, subst, sym, true, ℕ, ◌++◌, ◌∙◌, ◌∷◌, ◌≡◌, ◌⊎◌}
use Rattle.cg_busspec.proofs.Described.{device_has, host_has}
use Rattle.cg_busspec.proofs.Named.{d_link_is, h_link_is}
use Rattle.cg_busspec.proofs.NumberLists.{owner as one_owner, port_names_flat, port_names_join}
use Rattle.cg_busspec.specs.Crossbar.{crossbar_of as with_ranges, devices, hosts}
use Rattle.cg_busspec.specs.CrossbarModule.{clock_port, clocks, crossbar_module, crossbar_ports, d_link, device_ports, h_link, host_ports}
use Rattle.cg_clkrst.specs.Ports.{TiePort, uses_of}
use Rattle.cg_clkrst.specs.Ties.{AreTies, HasSource, port_of as tie_port}
use Rattle.cg_clkrst.specs.declared.tie.Owner.{Owner}
use Rattle.cg_clkrst.specs.declared.tie.Tie.{Tie}
use Rattle.cg_desc.specs.Crossbar.{NodeIs}
use Rattle.cg_desc.specs.declared.crossbar.NodeRanges.{NodeRanges}
use Rattle.cg_desc.specs.declared.crossbar.XbarDesc.{XbarDesc}
use Rattle.cg_desc.specs.declared.top.MergedTop.{MergedTop}
use Rattle.cg_svspec.proofs.NamesLemmas.{differ_back, differ_front, differ_join, none_repeats}
use Rattle.cg_svspec.specs.Links.{Link, device_link, host_link, spelled}
use Rattle.cg_svspec.specs.Names.{Among, Differ, module_names, port_names}
use Rattle.cg_svspec.specs.Printable.{AllOf}
use Rattle.cg_svspec.specs.Tree.{Module}
use Rattle.cg_svspec.specs.WellFormed.{connection_names}
use Rattle.cg_topspec.proofs.ApartNames.{NoneTwice, clock_only, connection_names_flat, connection_names_join, connection_names_map, counting_once, differ_flat, differ_mapped, from_mapped, is_listed_gives, no_clash, once_mapped, one_place, ports_once, twice_filter, twice_join, twice_map}
use Rattle.cg_topspec.proofs.Built.{Built, NamesApart, instance_connections, top_module}
use Rattle.cg_topspec.proofs.ListLemmas.{from_each, from_map, in_back, in_counting, in_front, in_map, in_parts}
use Rattle.cg_topspec.proofs.Merges.{same_node}
use Rattle.cg_topspec.proofs.Nets.{from_those, no_response}
use Rattle.cg_topspec.proofs.Nodes.{node_of_all, node_xbar}
use Rattle.cg_topspec.proofs.Relations.{crossbar_is, node_fact}
use Rattle.cg_topspec.specs.Clashes.{clash_lists, file_names, first_clash, known_modules, port_lists}
use Rattle.cg_topspec.specs.Modules.{HasModules}
use Rattle.cg_topspec.specs.Top.{NodeId, counting, crossbar_of, instance_numbers, is_host, node_id, node_of, nodes_in, ordered_in}
use Rattle.cg_topspec.specs.TopModule.{crossbar_clock, crossbar_ties, is_listed, node_connections, port_link}

-- ---- clocks of a crossbar's instance

ties_once : (m : MergedTop) (ties : List Tie) → AreTies m ties → NoneTwice (map tie_port ties)
ties_once m ties are = ports_once (map tie_port ties) (one_place (uses_of m) (map tie_port ties) are.ports)

pub source_of : (m : MergedTop) (ties : List Tie) → AreTies m ties → (t : Tie) → Among t ties → HasSource m (tie_port t) t.source
source_of m ties are t a = pick (λ t. HasSource m (tie_port t) t.source) ties are.sources t a where
  pick : (P : Tie → Type 0) (ts : List Tie) → AllOf P ts → (t : Tie) → Among t ts → P t
  pick P [] all t a = absurd a
  pick P (s ∷ ts) all t (inl e) = subst P (sym e) all.0
  pick P (s ∷ ts) all t (inr a) = pick P ts all.1 t a

-- two clocks of a crossbar with one name are one
same_clock : (m : MergedTop) (ties : List Tie) → AreTies m ties → (x : ℕ) (s t : Tie) → Among s (filter (λ t. is_listed x t.owner) ties) → Among t (filter (λ t. is_listed x t.owner) ties)
    → s.port ≡ t.port → s ≡ t
same_clock m ties are x s t a b e =
    let p = from_those (λ t. is_listed x t.owner) ties s a in
    let q = from_those (λ t. is_listed x t.owner) ties t b in
    let own_s = is_listed_gives x s.owner p.1 in
    let own_t = is_listed_gives x t.owner q.1 in
    let clock_s = clock_only m x (tie_port s) s.source (source_of m ties are s p.0) own_s in
    let clock_t = clock_only m x (tie_port t) t.source (source_of m ties are t q.0) own_t in
    from_mapped tie_port ties (ties_once m ties are) s t p.0 q.0 (same_port s.owner t.owner s.reset t.reset s.port t.port (own_s ∙ sym own_t) (clock_s ∙ sym clock_t) e)
  where
    same_port : (a b : Owner) (r q : Bool) (m n : List ℕ) → a ≡ b → r ≡ q → m ≡ n → ◌≡◌ {A = TiePort} (record { owner = a; reset = r; port = m }) (record { owner = b; reset = q; port = n })
    same_port a b r q m n e f g = rw (e, f, g) refl

clocks_differ : (m : MergedTop) (ties : List Tie) → AreTies m ties → (x : ℕ) → Differ (map (λ (t : Tie). (crossbar_clock t).name) (filter (λ t. is_listed x t.owner) ties))
clocks_differ m ties are x =
    differ_mapped (λ (t : Tie). (crossbar_clock t).name) (filter (λ t. is_listed x t.owner) ties)
    (twice_map (λ (t : Tie). (crossbar_clock t).name) (filter (λ t. is_listed x t.owner) ties) (twice_filter (λ t. is_listed x t.owner) ties (once_mapped tie_port ties (ties_once m ties are)))
    (λ s t a b e. same_clock m ties are x s t a b (cc)))

-- ---- nodes of a crossbar's instance

node_names : MergedTop → NodeId → List (List ℕ)
node_names m n = connection_names (node_connections m n)

pub nodes_once : (m : MergedTop) (x : ℕ) → NoneTwice (nodes_in m x)
nodes_once m x = twice_map (node_id x) (counting 0 (length (crossbar_of m x).nodes)) (counting_once 0 (length (crossbar_of m x).nodes)) (λ a b i j e. ap (λ (n : NodeId). n.node) e)

pub ordered_once : (m : MergedTop) (x : ℕ) → NoneTwice (ordered_in m x)
ordered_once m x =
    twice_join (filter (is_host m) (nodes_in m x)) (filter (λ n. not (is_host m n)) (nodes_in m x)) (twice_filter (is_host m) (nodes_in m x) (nodes_once m x))
    (twice_filter (λ n. not (is_host m n)) (nodes_in m x) (nodes_once m x))
    (λ n a b. both n (is_host m n) (from_those (is_host m) (nodes_in m x) n a).1 (from_those (λ n. not (is_host m n)) (nodes_in m x) n b).1) where
      both : (n : NodeId) (b : Bool) → b ≡ true → not b ≡ true → ⊥
      both n true e f = cc
      both n false e f = cc

-- the ports of a crossbar's module differ
module _ (x : XbarDesc) (ranges : List NodeRanges) (differ : Differ (module_names (crossbar_module (with_ranges x ranges)))) where
  ports_apart : Differ (port_names (crossbar_ports x))
  unfolding crossbar_module
  ports_apart = differ_front (port_names (crossbar_ports x)) _ differ

  node_ports_apart : Differ (flat_map (λ h. port_names (host_ports x h)) (hosts x) ++ flat_map (λ d. port_names (device_ports x d)) (devices x))
  unfolding crossbar_ports
  node_ports_apart =
      subst Differ (port_names_join (flat_map (host_ports x) (hosts x)) (flat_map (device_ports x) (devices x)) ∙ both)
      (differ_back (port_names (map clock_port (clocks x))) _ (subst Differ (port_names_join (map clock_port (clocks x)) _) ports_apart)) where
        both : port_names (flat_map (host_ports x) (hosts x)) ++ port_names (flat_map (device_ports x) (devices x))
            ≡ flat_map (λ h. port_names (host_ports x h)) (hosts x) ++ flat_map (λ d. port_names (device_ports x d)) (devices x)
        both = rw (port_names_flat (host_ports x) (hosts x), port_names_flat (device_ports x) (devices x)) refl

  one_host : (a b : ℕ) (n : List ℕ) → Among a (hosts x) → Among b (hosts x) → Among n (port_names (host_ports x a)) → Among n (port_names (host_ports x b)) → a ≡ b
  one_host a b n i j p q = one_owner (λ h. port_names (host_ports x h)) (hosts x) (differ_front (flat_map (λ h. port_names (host_ports x h)) (hosts x)) _ node_ports_apart) a b n i j p q

  one_device : (a b : ℕ) (n : List ℕ) → Among a (devices x) → Among b (devices x) → Among n (port_names (device_ports x a)) → Among n (port_names (device_ports x b)) → a ≡ b
  one_device a b n i j p q = one_owner (λ d. port_names (device_ports x d)) (devices x) (differ_back (flat_map (λ h. port_names (host_ports x h)) (hosts x)) _ node_ports_apart) a b n i j p q

-- ---- all connections of a crossbar's instance

pub its_node : (m : MergedTop) (x : ℕ) (n : NodeId) → Among n (ordered_in m x) → Among n (nodes_in m x)
its_node m x n a = by (in_parts n (filter (is_host m) (nodes_in m x)) (filter (λ n. not (is_host m n)) (nodes_in m x)) a) where
  by : Among n (filter (is_host m) (nodes_in m x)) ⊎ Among n (filter (λ n. not (is_host m n)) (nodes_in m x)) → Among n (nodes_in m x)
  by (inl z) = (from_those (is_host m) (nodes_in m x) n z).0
  by (inr z) = (from_those (λ n. not (is_host m n)) (nodes_in m x) n z).0

node_in : (m : MergedTop) (x : ℕ) (n : NodeId) → Among n (nodes_in m x) → NodeIs (crossbar_of m x) n.node (node_of m n)
node_in m x n a =
    let at = node_fact m n (node_of_all m x n a) in
    let here = node_xbar m x n a in
    subst (λ y. NodeIs (crossbar_of m y) n.node (node_of m n)) here (subst (λ (c : XbarDesc). NodeIs c n.node (node_of m n)) (sym (crossbar_is m n.xbar at.crossbar at.crossbar_is)) at.is)

same_letter : (a b : ℕ) (xs ys : List ℕ) → a ∷ xs ≡ b ∷ ys → a ≡ b
same_letter a b xs ys e = cc

-- a node's names begin with a letter, `h` for a host and `d` for a device
begins_so : (m : MergedTop) (n : NodeId) (b : Bool) → is_host m n ≡ b → (name : List ℕ) → Among name (node_names m n) → (rest : List ℕ) × (name ≡ cond b 104 100 ∷ rest)
unfolding node_names
begins_so m n true host name (inl e) = (_, e ∙ ap (λ b. (cond b (host_link (node_of m n).name) (device_link (node_of m n).name)).request) host)
begins_so m n true host name (inr (inl e)) = (_, e ∙ ap (λ b. (cond b (host_link (node_of m n).name) (device_link (node_of m n).name)).response) host)
begins_so m n true host name (inr (inr e)) = absurd e
begins_so m n false host name (inl e) = (_, e ∙ ap (λ b. (cond b (host_link (node_of m n).name) (device_link (node_of m n).name)).request) host)
begins_so m n false host name (inr (inl e)) = (_, e ∙ ap (λ b. (cond b (host_link (node_of m n).name) (device_link (node_of m n).name)).response) host)
begins_so m n false host name (inr (inr e)) = absurd e

node_differs : (m : MergedTop) (n : NodeId) → Differ (node_names m n)
unfolding node_names
node_differs m n = by (is_host m n) where
  by : (b : Bool) → Differ ((cond b (host_link (node_of m n).name) (device_link (node_of m n).name)).request ∷ (cond b (host_link (node_of m n).name) (device_link (node_of m n).name)).response ∷ [])
  by true = (other (λ e. no_response (codes "h_" ++ spelled (node_of m n).name) (codes "h_" ++ spelled (node_of m n).name) e), ((λ a. a), tt)) where
    other : {a b : List ℕ} → (a ≡ b → ⊥) → Among a (b ∷ []) → ⊥
    other h (inl e) = h e
    other h (inr e) = e
  by false = (other (λ e. no_response (codes "d_" ++ spelled (node_of m n).name) (codes "d_" ++ spelled (node_of m n).name) e), ((λ a. a), tt)) where
    other : {a b : List ℕ} → (a ≡ b → ⊥) → Among a (b ∷ []) → ⊥
    other h (inl e) = h e
    other h (inr e) = e

host_names : (m : MergedTop) (x : ℕ) (n : NodeId) → Among n (nodes_in m x) → is_host m n ≡ true → (name : List ℕ) → Among name (node_names m n) → Among name (port_names (host_ports (crossbar_of m x) n.node))
unfolding node_names
host_names m x n a host name among =
    let l : port_link m n ≡ h_link (crossbar_of m x) n.node = ap (λ b. cond b (host_link (node_of m n).name) (device_link (node_of m n).name)) host ∙ sym (h_link_is (crossbar_of m x) n.node (node_of m n) (node_in m x n a)) in
    subst (λ (k : Link). Among name (k.request ∷ k.response ∷ [])) l among

device_names : (m : MergedTop) (x : ℕ) (n : NodeId) → Among n (nodes_in m x) → is_host m n ≡ false → (name : List ℕ) → Among name (node_names m n) → Among name (port_names (device_ports (crossbar_of m x) n.node))
unfolding node_names
device_names m x n a device name among =
    let l : port_link m n ≡ d_link (crossbar_of m x) n.node = ap (λ b. cond b (host_link (node_of m n).name) (device_link (node_of m n).name)) device ∙ sym (d_link_is (crossbar_of m x) n.node (node_of m n) (node_in m x n a)) in
    subst (λ (k : Link). Among name (k.request ∷ k.response ∷ [])) l among

module _ (m : MergedTop) (x : ℕ) (ranges : List NodeRanges) (differ : Differ (module_names (crossbar_module (with_ranges (crossbar_of m x) ranges)))) where
  -- nodes of the crossbar that share a name are one
  one_of_name : (a b : NodeId) (name : List ℕ) → Among a (ordered_in m x) → Among b (ordered_in m x) → Among name (node_names m a) → Among name (node_names m b) → a ≡ b
  one_of_name a b name i j p q = by (is_host m a) refl (is_host m b) refl where
    join : a.node ≡ b.node → a ≡ b
    join e = same_node a b (node_xbar m x a (its_node m x a i) ∙ sym (node_xbar m x b (its_node m x b j))) e

    by : (r : Bool) → is_host m a ≡ r → (s : Bool) → is_host m b ≡ s → a ≡ b
    by true e true f = join (one_host (crossbar_of m x) ranges differ a.node b.node name (host_has (crossbar_of m x) a.node (node_of m a) (node_in m x a (its_node m x a i)) e)
        (host_has (crossbar_of m x) b.node (node_of m b) (node_in m x b (its_node m x b j)) f) (host_names m x a (its_node m x a i) e name p) (host_names m x b (its_node m x b j) f name q))
    by false e false f = join (one_device (crossbar_of m x) ranges differ a.node b.node name (device_has (crossbar_of m x) a.node (node_of m a, node_in m x a (its_node m x a i), e))
        (device_has (crossbar_of m x) b.node (node_of m b, node_in m x b (its_node m x b j), f)) (device_names m x a (its_node m x a i) e name p) (device_names m x b (its_node m x b j) f name q))
    by true e false f =
        let h = begins_so m a true e name p in let d = begins_so m b false f name q in
        absurd (let letter : 104 ≡ 100 = same_letter 104 100 h.0 d.0 (sym h.1 ∙ d.1) in omega (arith, letter))
    by false e true f =
        let h = begins_so m b true f name q in let d = begins_so m a false e name p in
        absurd (let letter : 104 ≡ 100 = same_letter 104 100 h.0 d.0 (sym h.1 ∙ d.1) in omega (arith, letter))

  pub crossbar_names_differ : (ties : List Tie) → AreTies m ties → Differ (connection_names (crossbar_ties ties x ++ flat_map (node_connections m) (ordered_in m x)))
  unfolding node_names
  crossbar_names_differ ties are =
      subst Differ (sym whole)
      (differ_join (map (λ (t : Tie). (crossbar_clock t).name) mine) (flat_map (node_names m) (ordered_in m x)) (clocks_differ m ties are x)
      (differ_flat (node_names m) (ordered_in m x) (ordered_once m x) (λ n a. node_differs m n) (λ a b name i j p q. one_of_name a b name i j p q))
      (λ name a b.
      let t = from_map (λ (t : Tie). (crossbar_clock t).name) mine name a in
      let n = from_each (node_names m) (ordered_in m x) name b in
      apart name t.0.port t.2 n.0 (is_host m n.0) refl n.2)) where
        mine : List Tie
        mine = filter (λ t. is_listed x t.owner) ties

        whole : connection_names (crossbar_ties ties x ++ flat_map (node_connections m) (ordered_in m x)) ≡ map (λ (t : Tie). (crossbar_clock t).name) mine ++ flat_map (node_names m) (ordered_in m x)
        whole =
            connection_names_join (crossbar_ties ties x) (flat_map (node_connections m) (ordered_in m x))
            ∙ (ap (λ ns. ns ++ connection_names (flat_map (node_connections m) (ordered_in m x))) (connection_names_map crossbar_clock mine)
            ∙ ap (λ ns. map (λ (t : Tie). (crossbar_clock t).name) mine ++ ns) (connection_names_flat (node_connections m) (ordered_in m x)))

        apart : (name port : List ℕ) → name ≡ codes "c_" ++ port → (n : NodeId) (b : Bool) → is_host m n ≡ b → Among name (node_names m n) → ⊥
        apart name port e n true host a = let h = begins_so m n true host name a in let letter : 99 ≡ 104 = same_letter 99 104 (95 ∷ port) h.0 (sym e ∙ h.1) in omega (arith, letter)
        apart name port e n false host a = let h = begins_so m n false host name a in let letter : 99 ≡ 100 = same_letter 99 100 (95 ∷ port) h.0 (sym e ∙ h.1) in omega (arith, letter)

-- ---- the whole

pub names_apart : (top : Built) → AreTies top.merged top.ties → first_clash (clash_lists top.merged top.numbers top.ties top.pins) ≡ None → (ms : List Module)
    → HasModules top.merged (top_module top ∷ ms) → NamesApart top
unfolding clash_lists
names_apart top ties none ms has =
    let m = top.merged in
    let lists = known_modules m ∷ file_names m ∷ (port_lists m top.ties ++ (module_names (top_module top) ∷ [])) in
    let any = no_clash lists none in
    record {
      top_names = any (module_names (top_module top)) (inr (inr (in_back _ (port_lists m top.ties) _ (inl refl))));
      block_ports = λ i less. any (connection_names (instance_connections top i))
          (inr (inr (in_front _ (port_lists m top.ties) _ (in_map (λ k. connection_names (instance_connections top k)) (instance_numbers m) i (in_counting 0 (length m.top.insts) i (omega arith) (omega (arith, less)))))));
      crossbar_ports = λ x less. let c = has.crossbars x less in crossbar_names_differ m x c.ranges (none_repeats _ c.no_repeat) top.ties ties;
    }
