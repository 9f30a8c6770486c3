-- The links of a crossbar's module are declared and known where its parts stand, by names that can be printed.
use Rattle.std.proofs.Common.{◌≡◌, ℕ, zero, suc, ◌+◌, ◌<◌, eqb, Bool, true, false, not, cond, arith, ◌||◌, ◌⊎◌, inl, inr, List, [], ◌∷◌, ◌++◌, map, length, refl, ap, sym, subst, ◌∙◌, codes}
use Rattle.std.specs.Prelude.{flat_map}
use Rattle.cg_svspec.specs.Characters.{IsName, Each, is_name_character}
use Rattle.cg_svspec.specs.Names.{Among, is_among}
use Rattle.cg_svspec.specs.Printable.{AllOf, IsWidth, IsPrintablePort}
use Rattle.cg_svspec.specs.Tree.{Port}
use Rattle.cg_svspec.specs.WellFormed.{Declares, port_nets}
use Rattle.cg_svspec.proofs.NamesLemmas.{among_by_test, among_front}
use Rattle.cg_svspec.proofs.Runs.{each_passes}
use Rattle.cg_svspec.specs.Links.{Link, spelled}
use Rattle.cg_desc.specs.declared.crossbar.NodeDesc.{NodeDesc}
use Rattle.cg_busspec.specs.Crossbar.{Crossbar, node_at, numbers_of, node, hosts, devices, label}
use Rattle.cg_busspec.proofs.Good.{IsCrossbar, IsNode, is_node_character}
use Rattle.cg_busspec.specs.CrossbarModule.{link_named, h_link, f_link, l_link, m_link, d_link, sel, clock_net, new_clocks, clocks, clock_port, host_ports, device_ports, crossbar_ports}
use Rattle.cg_busspec.proofs.PartWays.{label_is}
use Rattle.cg_svspec.proofs.WellNames.{prefix_name, each_join}

-- ---- names

-- a name with two underscores for dots has characters of names
pub spelled_each : (cs : List ℕ) → Each is_node_character cs → Each is_name_character (spelled cs)
spelled_each [] e = tt
spelled_each (c ∷ cs) e = by (spelled_each cs e.1) (eqb c 46) refl where
  by : Each is_name_character (spelled cs) → (b : Bool) → eqb c 46 ≡ b → Each is_name_character (cond b (95 ∷ 95 ∷ spelled cs) (c ∷ spelled cs))
  by later true t = (refl, (refl, later))
  by later false t = (plain (is_name_character c) (eqb c 46) e.0 t, later) where
    plain : (a b : Bool) → (a || b) ≡ true → b ≡ false → a ≡ true
    plain true b h n = refl
    plain false b h n = let u : true ≡ false = sym h ∙ n in cc

-- a node by its number has good names, also where there is none
node_is : (ns : List NodeDesc) (i : ℕ) → AllOf IsNode ns → IsNode (node_at ns i)
node_is [] i a = (tt, tt)
node_is (n ∷ ns) zero a = a.0
node_is (n ∷ ns) (suc i) a = node_is ns i a.1

-- a name as it stands in nets has characters of names
pub label_each : (x : Crossbar) → IsCrossbar x → (i : ℕ) → Each is_name_character (label x.desc i)
unfolding label
label_each x c i = subst (Each is_name_character) (sym (label_is (node x.desc i).name)) (spelled_each (node x.desc i).name (node_is x.desc.nodes i c.nodes).0)

-- so has a node's clock
clock_each : (x : Crossbar) → IsCrossbar x → (i : ℕ) → Each is_name_character (node x.desc i).clock
clock_each x c i = (node_is x.desc.nodes i c.nodes).1

-- the nets of a link
pub record LinkNamed (l : Link) : Type 0 where
  pub request : IsName l.request
  pub response : IsName l.response

-- with a start that is written out
abbrev IsStart : List ℕ → Type 0
IsStart start = (b : List ℕ) → Each is_name_character b → IsName (start ++ b)

-- the starts of links are words with an underscore
start_h : IsStart (codes "h_")
start_h b e = prefix_name (codes "h_") b refl refl e

-- a link of such a start has good names
named : (start name : List ℕ) → IsStart start → Each is_name_character name → LinkNamed (link_named start name)
named start name s e = record {
  request = s (name ++ codes "_req") (each_join is_name_character name (codes "_req") e (each_passes is_name_character (codes "_req") refl));
  response = s (name ++ codes "_rsp") (each_join is_name_character name (codes "_rsp") e (each_passes is_name_character (codes "_rsp") refl));
}

-- a host's link
pub h_named : (x : Crossbar) → IsCrossbar x → (h : ℕ) → LinkNamed (h_link x.desc h)
h_named x c h = named (codes "h_") (label x.desc h) (λ b e. prefix_name (codes "h_") b refl refl e) (label_each x c h)

-- the link behind a host's FIFO
pub f_named : (x : Crossbar) → IsCrossbar x → (h : ℕ) → LinkNamed (f_link x.desc h)
f_named x c h = named (codes "f_") (label x.desc h) (λ b e. prefix_name (codes "f_") b refl refl e) (label_each x c h)

-- the link before a device's FIFO
pub m_named : (x : Crossbar) → IsCrossbar x → (d : ℕ) → LinkNamed (m_link x.desc d)
m_named x c d = named (codes "m_") (label x.desc d) (λ b e. prefix_name (codes "m_") b refl refl e) (label_each x c d)

-- a device's link
pub d_named : (x : Crossbar) → IsCrossbar x → (d : ℕ) → LinkNamed (d_link x.desc d)
d_named x c d = named (codes "d_") (label x.desc d) (λ b e. prefix_name (codes "d_") b refl refl e) (label_each x c d)

-- the link to an M-to-1 socket
pub l_named : (x : Crossbar) → IsCrossbar x → (h d : ℕ) → LinkNamed (l_link x.desc h d)
l_named x c h d =
    named (codes "l_") (label x.desc h ++ (codes "_t_" ++ label x.desc d)) (λ b e. prefix_name (codes "l_") b refl refl e)
    (each_join is_name_character (label x.desc h) (codes "_t_" ++ label x.desc d) (label_each x c h) (each_join is_name_character (codes "_t_") (label x.desc d) (each_passes is_name_character (codes "_t_") refl) (label_each x c d)))

-- a select's name
pub sel_named : (x : Crossbar) → IsCrossbar x → (h : ℕ) → IsName (sel x.desc h)
sel_named x c h = prefix_name (codes "sel_") (label x.desc h) refl refl (label_each x c h)

-- a clock's port
pub clock_named : (cs : List ℕ) → Each is_name_character cs → IsName (clock_net cs)
clock_named cs e = prefix_name (codes "c_") cs refl refl e

-- ---- widths

-- widths that can be printed: of a bit
pub bit_width : IsWidth 1
bit_width = (omega arith, omega arith)

-- of a request
pub request_width : IsWidth 70
request_width = (omega arith, omega arith)

-- of a response
pub response_width : IsWidth 33
response_width = (omega arith, omega arith)

-- ---- ports

-- of ports together
all_ports : (P : Port → Type 0) (xs ys : List Port) → AllOf P xs → AllOf P ys → AllOf P (xs ++ ys)
all_ports P [] ys a b = b
all_ports P (x ∷ xs) ys a b = (a.0, all_ports P xs ys a.1 b)

-- of ports that are made number by number
flat_ports : (P : Port → Type 0) (f : ℕ → List Port) (is : List ℕ) → ((i : ℕ) → AllOf P (f i)) → AllOf P (flat_map f is)
flat_ports P f [] a = tt
flat_ports P f (i ∷ is) a = all_ports P (f i) (flat_map f is) (a i) (flat_ports P f is a)

-- the clocks' characters
clocks_each : (seen : List (List ℕ)) (ns : List NodeDesc) → AllOf IsNode ns → AllOf (Each is_name_character) (new_clocks seen ns)
clocks_each seen [] a = tt
clocks_each seen (n ∷ ns) a = by (is_among seen n.clock) (clocks_each seen ns a.1) (clocks_each (n.clock ∷ seen) ns a.1) where
  by : (b : Bool) → AllOf (Each is_name_character) (new_clocks seen ns) → AllOf (Each is_name_character) (new_clocks (n.clock ∷ seen) ns)
      → AllOf (Each is_name_character) (cond b (new_clocks seen ns) (n.clock ∷ new_clocks (n.clock ∷ seen) ns))
  by true old new = old
  by false old new = (a.0.1, new)

-- the ports of clocks can be printed
clock_ports : (cs : List (List ℕ)) → AllOf (Each is_name_character) cs → AllOf IsPrintablePort (map clock_port cs)
clock_ports [] a = tt
clock_ports (c ∷ cs) a = ((bit_width, clock_named c a.0), clock_ports cs a.1)

-- so can all ports
pub ports_printable : (x : Crossbar) → IsCrossbar x → AllOf IsPrintablePort (crossbar_ports x.desc)
unfolding crossbar_ports clocks
ports_printable x c =
    all_ports IsPrintablePort (map clock_port (clocks x.desc)) _ (clock_ports (clocks x.desc) (c.clock, clocks_each (x.desc.clock ∷ []) x.desc.nodes c.nodes))
    (all_ports IsPrintablePort (flat_map (host_ports x.desc) (hosts x.desc)) (flat_map (device_ports x.desc) (devices x.desc))
    (flat_ports IsPrintablePort (host_ports x.desc) (hosts x.desc) (λ h. ((request_width, (h_named x c h).request), ((response_width, (h_named x c h).response), tt))))
    (flat_ports IsPrintablePort (device_ports x.desc) (devices x.desc) (λ d. ((request_width, (d_named x c d).request), ((response_width, (d_named x c d).response), tt)))))

-- a port is a net
pub port_in_nets : (p : Port) (ps : List Port) → Among p ps → Declares (port_nets ps) p.name p.width
port_in_nets p [] h = absurd h
port_in_nets p (q ∷ qs) (inl e) = inl (ap (λ z. z.name) (sym e), ap (λ z. z.width) (sym e))
port_in_nets p (q ∷ qs) (inr h) = inr (port_in_nets p qs h)

-- ---- clocks of nodes

-- a clock was there, or is new
clock_among : (seen : List (List ℕ)) (ns : List NodeDesc) (i : ℕ) → i < length ns → Among (node_at ns i).clock seen ⊎ Among (node_at ns i).clock (new_clocks seen ns)
clock_among seen [] i low = absurd (omega arith)
clock_among seen (n ∷ ns) zero low = by (is_among seen n.clock) refl where
  by : (b : Bool) → is_among seen n.clock ≡ b → Among n.clock seen ⊎ Among n.clock (cond b (new_clocks seen ns) (n.clock ∷ new_clocks (n.clock ∷ seen) ns))
  by true t = inl (among_by_test seen n.clock t)
  by false t = inr (inl refl)
clock_among seen (n ∷ ns) (suc i) low =
    by (is_among seen n.clock) (clock_among seen ns i (omega arith)) (clock_among (n.clock ∷ seen) ns i (omega arith)) where
      k : List ℕ
      k = (node_at ns i).clock

      by : (b : Bool) → Among k seen ⊎ Among k (new_clocks seen ns) → Among k (n.clock ∷ seen) ⊎ Among k (new_clocks (n.clock ∷ seen) ns)
          → Among k seen ⊎ Among k (cond b (new_clocks seen ns) (n.clock ∷ new_clocks (n.clock ∷ seen) ns))
      by true old new = old
      by false old (inl (inl e)) = inr (inl e)
      by false old (inl (inr a)) = inl a
      by false old (inr a) = inr (inr a)

-- numbers of nodes
number_low : (b : Bool) (i j : ℕ) (ns : List NodeDesc) → Among j (numbers_of b i ns) → j < i + length ns
number_low b i j [] h = absurd h
number_low b i j (n ∷ ns) h = by (number_low b (suc i) j ns) (cond b n.host (not n.host)) h where
  by : (Among j (numbers_of b (suc i) ns) → j < suc i + length ns) → (t : Bool) → Among j (cond t (i ∷ numbers_of b (suc i) ns) (numbers_of b (suc i) ns)) → j < i + suc (length ns)
  by later true (inl e) = omega (arith, e)
  by later true (inr m) = let low = later m in omega (arith, low)
  by later false m = let low = later m in omega (arith, low)

-- a host's number is that of a node
host_low : (x : Crossbar) (h : ℕ) → Among h (hosts x.desc) → h < length x.desc.nodes
unfolding hosts
host_low x h i = let low = number_low true 0 h x.desc.nodes i in omega (arith, low)

-- so is a device's
device_low : (x : Crossbar) (d : ℕ) → Among d (devices x.desc) → d < length x.desc.nodes
unfolding devices
device_low x d i = let low = number_low false 0 d x.desc.nodes i in omega (arith, low)

-- a clock has a port
clock_in_ports : (c : List ℕ) (cs : List (List ℕ)) → Among c cs → Among (clock_port c) (map clock_port cs)
clock_in_ports c [] a = absurd a
clock_in_ports c (k ∷ ks) (inl e) = inl (ap clock_port e)
clock_in_ports c (k ∷ ks) (inr a) = inr (clock_in_ports c ks a)

-- among all ports
pub clock_in : (x : Crossbar) (c : List ℕ) → Among c (clocks x.desc) → Among (clock_port c) (crossbar_ports x.desc)
unfolding crossbar_ports
clock_in x c a = among_front (clock_port c) (map clock_port (clocks x.desc)) _ (clock_in_ports c (clocks x.desc) a)

-- the crossbar's clock is one
pub own_clock : (x : Crossbar) → Among x.desc.clock (clocks x.desc)
unfolding clocks
own_clock x = inl refl

-- so is a node's
pub node_clock : (x : Crossbar) (i : ℕ) → i < length x.desc.nodes → Among (node x.desc i).clock (clocks x.desc)
unfolding clocks
node_clock x i low = by (clock_among (x.desc.clock ∷ []) x.desc.nodes i low) where
  by : Among (node x.desc i).clock (x.desc.clock ∷ []) ⊎ Among (node x.desc i).clock (new_clocks (x.desc.clock ∷ []) x.desc.nodes) → Among (node x.desc i).clock (x.desc.clock ∷ new_clocks (x.desc.clock ∷ []) x.desc.nodes)
  by (inl (inl e)) = inl e
  by (inl (inr n)) = absurd n
  by (inr a) = inr a

-- a host's
pub host_clock : (x : Crossbar) (h : ℕ) → Among h (hosts x.desc) → Among (node x.desc h).clock (clocks x.desc)
host_clock x h i = node_clock x h (host_low x h i)

-- a device's
pub device_clock : (x : Crossbar) (d : ℕ) → Among d (devices x.desc) → Among (node x.desc d).clock (clocks x.desc)
device_clock x d i = node_clock x d (device_low x d i)

-- and its port's name is good
pub clock_name : (x : Crossbar) → IsCrossbar x → (i : ℕ) → IsName (clock_net (node x.desc i).clock)
clock_name x c i = clock_named (node x.desc i).clock (clock_each x c i)
