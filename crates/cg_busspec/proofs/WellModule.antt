-- The module of a crossbar is well formed where none of its names repeats.
use Rattle.std.proofs.Common.{◌≡◌, ℕ, suc, ◌+◌, ◌<◌, ◌≤◌, Bool, true, false, cond, arith, inl, inr, List, [], ◌∷◌, ◌++◌, map, length, refl, ap, sym, subst, codes}
use Rattle.std.specs.Prelude.{flat_map, filter}
use Rattle.std.proofs.lemmas.Bool.Decides.{nat_tests}
use Rattle.cg_svspec.specs.Characters.{IsName}
use Rattle.cg_svspec.specs.Names.{Among, Differ, module_names}
use Rattle.cg_svspec.specs.Printable.{AllOf, IsSomeOf, IsWidth}
use Rattle.cg_svspec.specs.Tree.{Port, Entry, wire, drive, assign, inst}
use Rattle.cg_svspec.specs.Register.{input_port, output_port}
use Rattle.cg_svspec.specs.WellFormed.{port_nets, inputs_of, outputs_of, instance_driven, WellFormed}
use Rattle.cg_svspec.proofs.NamesLemmas.{among_front, among_back}
use Rattle.cg_svspec.specs.Links.{Link}
use Rattle.cg_busspec.specs.Crossbar.{Crossbar, node, hosts, devices, label, reach, feeders, is_in, is_joined, has_fifo}
use Rattle.cg_busspec.proofs.Good.{IsCrossbar}
use Rattle.cg_busspec.specs.CrossbarModule.{h_link, f_link, l_link, m_link, d_link, sel, clock_net, socket_link, joined_link, lane, clocks, clock_port, crossbar_ports, entries_if, link_wires, host_wires, lane_wires, host_lanes, device_wires, host_select, fifo_instance, split_instance, join_instance, host_fifo_entry, host_split_entry, device_join_entry, device_fifo_entry, host_parts, device_parts, join_lanes, crossbar_wires, crossbar_selects, crossbar_parts, crossbar_entries, crossbar_module}
use Rattle.cg_busspec.proofs.NumberLists.{WireIn, wire_front}
use Rattle.cg_busspec.proofs.Places.{if_wires, host_port_in, device_port_in, host_wire_in, lane_wire_in, device_wire_in, feeder_is}
use Rattle.cg_busspec.proofs.Owners.{input_among, output_among}
use Rattle.cg_busspec.proofs.Sums.{short, hosts_few}
use Rattle.cg_busspec.proofs.Balance.{crossbar_balanced}
use Rattle.cg_svspec.proofs.WellCounts.{count, plain_of, assigned_of, among_counts, counts_among, balanced_drivers_differ, balanced_outputs_driven, balanced_wires_driven, balanced_inputs_free}
use Rattle.cg_svspec.proofs.WellNames.{prefix_name}
use Rattle.cg_svspec.proofs.WellSound.{Above, Up, Declared, Has, same_up, up_up, has_up, up_after, after, with_drive, up_drive, GivenBy, all_given, Sounds, sounds_none, sounds_wire, sounds_drive, sounds_join}
use Rattle.cg_busspec.proofs.WellLinks.{LinkNamed, h_named, f_named, m_named, d_named, l_named, sel_named, clock_named, label_each, request_width, response_width, ports_printable, port_in_nets, clock_in, own_clock, host_clock, device_clock, clock_name}
use Rattle.cg_busspec.proofs.WellParts.{select_sound, LinkHas, LinksHave, fifo_sounds, split_sounds, join_sounds}

-- ---- entries that fit wherever their nets are known

-- the entries are sound wherever what stands above has all of b
abbrev Good : List (List ℕ) → Above → List Entry → Type 0
Good ins b es = (e : Above) → Up b e → Sounds ins e es

-- so are entries behind entries
good_join : (ins : List (List ℕ)) (b : Above) (xs ys : List Entry) → Good ins b xs → Good ins b ys → Good ins b (xs ++ ys)
good_join ins b xs ys g k e up = sounds_join e xs ys (g e up) (k (after e xs) (up_up up (up_after e xs)))

-- entries where a test holds
good_if : (ins : List (List ℕ)) (b : Above) (t : Bool) (es : List Entry) → (t ≡ true → Good ins b es) → Good ins b (entries_if t es)
good_if ins b true es g = g refl
good_if ins b false es g = λ e up. sounds_none

-- entries that are made number by number
good_flat : (ins : List (List ℕ)) (b : Above) (f : ℕ → List Entry) (is : List ℕ) → ((i : ℕ) → Among i is → Good ins b (f i)) → Good ins b (flat_map f is)
good_flat ins b f [] g = λ e up. sounds_none
good_flat ins b f (i ∷ is) g = good_join ins b (f i) (flat_map f is) (g i (inl refl)) (good_flat ins b f is (λ j m. g j (inr m)))

-- ---- wires

-- a link's wires
good_links : (ins : List (List ℕ)) (b : Above) (l : Link) → LinkNamed l → Good ins b (link_wires l)
good_links ins b l n e up = sounds_wire request_width n.request (sounds_wire response_width n.response sounds_none)

-- all wires
good_wires : (x : Crossbar) → IsCrossbar x → (ins : List (List ℕ)) (b : Above) → Good ins b (crossbar_wires x.desc)
good_wires x c ins b =
    good_join ins b (flat_map (host_wires x.desc) (hosts x.desc)) (flat_map (host_lanes x.desc) (hosts x.desc) ++ flat_map (device_wires x.desc) (devices x.desc))
    (good_flat ins b (host_wires x.desc) (hosts x.desc) (λ h i. good_if ins b (has_fifo x.desc h) (link_wires (f_link x.desc h)) (λ t. good_links ins b (f_link x.desc h) (f_named x c h))))
    (good_join ins b (flat_map (host_lanes x.desc) (hosts x.desc)) (flat_map (device_wires x.desc) (devices x.desc))
    (good_flat ins b (host_lanes x.desc) (hosts x.desc) (λ h i. good_flat ins b (lane_wires x.desc h) (reach x.desc h) (λ d j. good_if ins b (is_joined x.desc d) (link_wires (l_link x.desc h d)) (λ t. good_links ins b (l_link x.desc h d) (l_named x c h d)))))
    (good_flat ins b (device_wires x.desc) (devices x.desc) (λ d i. good_if ins b (has_fifo x.desc d) (link_wires (m_link x.desc d)) (λ t. good_links ins b (m_link x.desc d) (m_named x c d)))))

-- ---- what is known

-- the module's inputs
abbrev ins_of : Crossbar → List (List ℕ)
ins_of x = inputs_of (crossbar_ports x.desc)

-- what stands above the entries
abbrev above0 : Crossbar → Above
above0 x = record { nets = port_nets (crossbar_ports x.desc); known = ins_of x ++ instance_driven (ins_of x) (crossbar_entries x) }

-- behind the wires
abbrev above1 : Crossbar → Above
above1 x = after (above0 x) (crossbar_wires x.desc)

-- behind the selects
abbrev above2 : Crossbar → Above
above2 x = after (above1 x) (crossbar_selects x)

-- no assignments
no_assign_join : (n : List ℕ) (xs ys : List Entry) → count n (assigned_of (xs ++ ys)) ≡ count n (assigned_of xs) + count n (assigned_of ys)
no_assign_join n [] ys = omega arith
no_assign_join n (wire w m ∷ xs) ys = no_assign_join n xs ys
no_assign_join n (drive w m x ∷ xs) ys = no_assign_join n xs ys
no_assign_join n (assign m x ∷ xs) ys = omega (arith, no_assign_join n xs ys)
no_assign_join n (inst p ps m cs ∷ xs) ys = no_assign_join n xs ys

-- each entry of a good list is none, where no entry assigns
abbrev Free : List ℕ → List Entry → Type 0
Free n es = count n (assigned_of es) ≡ 0

-- nothing is assigned in lists put together
free_join : (n : List ℕ) (xs ys : List Entry) → Free n xs → Free n ys → Free n (xs ++ ys)
free_join n xs ys a b = omega (arith, no_assign_join n xs ys, a, b)

-- nor number by number
free_flat : (n : List ℕ) (f : ℕ → List Entry) (is : List ℕ) → ((i : ℕ) → Free n (f i)) → Free n (flat_map f is)
free_flat n f [] a = refl
free_flat n f (i ∷ is) a = free_join n (f i) (flat_map f is) (a i) (free_flat n f is a)

-- nor where a test holds
free_if : (n : List ℕ) (b : Bool) (es : List Entry) → Free n es → Free n (entries_if b es)
free_if n true es a = a
free_if n false es a = refl

-- nor by selects
free_selects : (x : Crossbar) (n : List ℕ) (hs : List ℕ) → Free n (map (host_select x) hs)
free_selects x n [] = refl
free_selects x n (h ∷ hs) = free_selects x n hs

-- nor at all
all_free : (x : Crossbar) (n : List ℕ) → Free n (crossbar_entries x)
unfolding crossbar_entries fifo_instance split_instance join_instance
all_free x n =
    free_join n (crossbar_wires x.desc) (crossbar_selects x ++ crossbar_parts x.desc)
    (free_join n (flat_map (host_wires x.desc) (hosts x.desc)) (flat_map (host_lanes x.desc) (hosts x.desc) ++ flat_map (device_wires x.desc) (devices x.desc))
    (free_flat n (host_wires x.desc) (hosts x.desc) (λ h. free_if n (has_fifo x.desc h) (link_wires (f_link x.desc h)) refl))
    (free_join n (flat_map (host_lanes x.desc) (hosts x.desc)) (flat_map (device_wires x.desc) (devices x.desc))
    (free_flat n (host_lanes x.desc) (hosts x.desc) (λ h. free_flat n (lane_wires x.desc h) (reach x.desc h) (λ d. free_if n (is_joined x.desc d) (link_wires (l_link x.desc h d)) refl)))
    (free_flat n (device_wires x.desc) (devices x.desc) (λ d. free_if n (has_fifo x.desc d) (link_wires (m_link x.desc d)) refl))))
    (free_join n (crossbar_selects x) (crossbar_parts x.desc) (free_selects x n (hosts x.desc))
    (free_join n (flat_map (host_parts x.desc) (hosts x.desc)) (flat_map (device_parts x.desc) (devices x.desc))
    (free_flat n (host_parts x.desc) (hosts x.desc) (λ h. free_join n (entries_if (has_fifo x.desc h) (host_fifo_entry x.desc h ∷ [])) (host_split_entry x.desc h ∷ []) (free_if n (has_fifo x.desc h) (host_fifo_entry x.desc h ∷ []) refl) refl))
    (free_flat n (device_parts x.desc) (devices x.desc) (λ d. free_join n (entries_if (is_joined x.desc d) (device_join_entry x.desc d ∷ [])) (entries_if (has_fifo x.desc d) (device_fifo_entry x.desc d ∷ []))
    (free_if n (is_joined x.desc d) (device_join_entry x.desc d ∷ []) refl) (free_if n (has_fifo x.desc d) (device_fifo_entry x.desc d ∷ []) refl)))))

-- instances drive what is a plain wire or an output
driven_known : (x : Crossbar) → IsCrossbar x → (n : List ℕ) → 0 < count n (plain_of (crossbar_entries x)) + count n (outputs_of (crossbar_ports x.desc)) → Among n (above0 x).known
unfolding crossbar_module
driven_known x c n some =
    among_back n (ins_of x) (instance_driven (ins_of x) (crossbar_entries x))
    (counts_among n (instance_driven (ins_of x) (crossbar_entries x)) (omega (arith, (crossbar_balanced x c).driven n, all_free x n, some)))

-- a wire is a plain one
wire_plain : (w : ℕ) (n : List ℕ) (es : List Entry) → WireIn w n es → Among n (plain_of es)
wire_plain w n [] h = absurd h
wire_plain w n (wire u m ∷ es) (inl e) = inl (sym e.1)
wire_plain w n (wire u m ∷ es) (inr h) = inr (wire_plain w n es h)
wire_plain w n (drive u m x ∷ es) h = wire_plain w n es h
wire_plain w n (assign m x ∷ es) h = wire_plain w n es h
wire_plain w n (inst m ps k cs ∷ es) h = wire_plain w n es h

-- and is declared behind its entries
given_wire : (f : Above) (w : ℕ) (n : List ℕ) (es : List Entry) → AllOf (GivenBy f) es → WireIn w n es → Declared f n w
given_wire f w n [] a h = absurd h
given_wire f w n (wire u m ∷ es) a (inl e) = subst (λ z. Declared f z w) e.1 (subst (Declared f m) e.0 a.0)
given_wire f w n (wire u m ∷ es) a (inr h) = given_wire f w n es a.1 h
given_wire f w n (drive u m x ∷ es) a h = given_wire f w n es a.1 h
given_wire f w n (assign m x ∷ es) a h = given_wire f w n es a.1 h
given_wire f w n (inst m ps k cs ∷ es) a h = given_wire f w n es a.1 h

-- ---- nets behind the wires

-- what stands above the wires stands behind them
up01 : (x : Crossbar) → Up (above0 x) (above1 x)
up01 x = up_after (above0 x) (crossbar_wires x.desc)

-- an input may be used
input_has : (x : Crossbar) (p : Port) → Among p (crossbar_ports x.desc) → p.input ≡ true → IsName p.name → Has (above1 x) p.name p.width
input_has x p h e n = has_up (up01 x) (record {
  declared = record { name = n; net = port_in_nets p (crossbar_ports x.desc) h };
  known = among_front p.name (ins_of x) (instance_driven (ins_of x) (crossbar_entries x)) (input_among p (crossbar_ports x.desc) h e);
})

-- an output that is driven
output_has : (x : Crossbar) → IsCrossbar x → (p : Port) → Among p (crossbar_ports x.desc) → p.input ≡ false → IsName p.name → Has (above1 x) p.name p.width
output_has x c p h e n = has_up (up01 x) (record {
  declared = record { name = n; net = port_in_nets p (crossbar_ports x.desc) h };
  known = driven_known x c p.name (omega (arith, among_counts p.name (outputs_of (crossbar_ports x.desc)) (output_among p (crossbar_ports x.desc) h e)));
})

-- a wire that is driven
wire_has : (x : Crossbar) → IsCrossbar x → (w : ℕ) (n : List ℕ) → WireIn w n (crossbar_wires x.desc) → Has (above1 x) n w
unfolding crossbar_entries
wire_has x c w n h = record {
  declared = given_wire (above1 x) w n (crossbar_wires x.desc) (all_given (above0 x) (crossbar_wires x.desc) (good_wires x c (ins_of x) (above0 x) (above0 x) (same_up (above0 x))).printable) h;
  known = (up01 x).known n (driven_known x c n (omega (arith, among_counts n (plain_of (crossbar_entries x)) (wire_plain w n (crossbar_entries x) (wire_front w n (crossbar_wires x.desc) (crossbar_selects x ++ crossbar_parts x.desc) h)))));
}

-- the links
h_has : (x : Crossbar) → IsCrossbar x → (h : ℕ) → Among h (hosts x.desc) → LinkHas (above1 x) (h_link x.desc h)
h_has x c h i = record {
  request = input_has x (input_port 70 (h_link x.desc h).request) (host_port_in x h _ i (inl refl)) refl (h_named x c h).request;
  response = output_has x c (output_port 33 (h_link x.desc h).response) (host_port_in x h _ i (inr (inl refl))) refl (h_named x c h).response;
}

-- a device's link may be used
d_has : (x : Crossbar) → IsCrossbar x → (d : ℕ) → Among d (devices x.desc) → LinkHas (above1 x) (d_link x.desc d)
d_has x c d i = record {
  request = output_has x c (output_port 70 (d_link x.desc d).request) (device_port_in x d _ i (inl refl)) refl (d_named x c d).request;
  response = input_has x (input_port 33 (d_link x.desc d).response) (device_port_in x d _ i (inr (inl refl))) refl (d_named x c d).response;
}

-- the link behind a host's FIFO
f_has : (x : Crossbar) → IsCrossbar x → (h : ℕ) → Among h (hosts x.desc) → has_fifo x.desc h ≡ true → LinkHas (above1 x) (f_link x.desc h)
f_has x c h i e = record {
  request = wire_has x c 70 (f_link x.desc h).request (host_wire_in x h 70 _ i (if_wires (has_fifo x.desc h) 70 _ (link_wires (f_link x.desc h)) e (inl (refl, refl))));
  response = wire_has x c 33 (f_link x.desc h).response (host_wire_in x h 33 _ i (if_wires (has_fifo x.desc h) 33 _ (link_wires (f_link x.desc h)) e (inr (inl (refl, refl)))));
}

-- the link before a device's FIFO
m_has : (x : Crossbar) → IsCrossbar x → (d : ℕ) → Among d (devices x.desc) → has_fifo x.desc d ≡ true → LinkHas (above1 x) (m_link x.desc d)
m_has x c d i e = record {
  request = wire_has x c 70 (m_link x.desc d).request (device_wire_in x d 70 _ i (if_wires (has_fifo x.desc d) 70 _ (link_wires (m_link x.desc d)) e (inl (refl, refl))));
  response = wire_has x c 33 (m_link x.desc d).response (device_wire_in x d 33 _ i (if_wires (has_fifo x.desc d) 33 _ (link_wires (m_link x.desc d)) e (inr (inl (refl, refl)))));
}

-- the link to an M-to-1 socket
l_has : (x : Crossbar) → IsCrossbar x → (h d : ℕ) → Among h (hosts x.desc) → Among d (reach x.desc h) → is_joined x.desc d ≡ true → LinkHas (above1 x) (l_link x.desc h d)
l_has x c h d i j e = record {
  request = wire_has x c 70 (l_link x.desc h d).request (lane_wire_in x h d 70 _ i j (if_wires (is_joined x.desc d) 70 _ (link_wires (l_link x.desc h d)) e (inl (refl, refl))));
  response = wire_has x c 33 (l_link x.desc h d).response (lane_wire_in x h d 33 _ i j (if_wires (is_joined x.desc d) 33 _ (link_wires (l_link x.desc h d)) e (inr (inl (refl, refl)))));
}

-- a link that a test chooses
chosen_has : (e : Above) (b : Bool) (l k : Link) → (b ≡ true → LinkHas e l) → (b ≡ false → LinkHas e k) → LinkHas e (cond b l k)
chosen_has e true l k a b = a refl
chosen_has e false l k a b = b refl

-- the link at a host's socket
socket_has : (x : Crossbar) → IsCrossbar x → (h : ℕ) → Among h (hosts x.desc) → LinkHas (above1 x) (socket_link x.desc h)
unfolding socket_link
socket_has x c h i = chosen_has (above1 x) (has_fifo x.desc h) (f_link x.desc h) (h_link x.desc h) (f_has x c h i) (λ e. h_has x c h i)

-- a device's first link behind its M-to-1 socket
device_has : (x : Crossbar) → IsCrossbar x → (d : ℕ) → Among d (devices x.desc) → LinkHas (above1 x) (joined_link x.desc d)
unfolding joined_link
device_has x c d i = chosen_has (above1 x) (has_fifo x.desc d) (m_link x.desc d) (d_link x.desc d) (m_has x c d i) (λ e. d_has x c d i)

-- a link behind a host's socket
lane_has : (x : Crossbar) → IsCrossbar x → (h d : ℕ) → Among h (hosts x.desc) → Among d (reach x.desc h) → LinkHas (above1 x) (lane x.desc h d)
unfolding lane
lane_has x c h d i j = chosen_has (above1 x) (is_joined x.desc d) (l_link x.desc h d) (joined_link x.desc d) (l_has x c h d i j) (λ e. device_has x c d (c.reaches h d i j))

-- a link may be used further down
link_up : {e f : Above} {l : Link} → Up e f → LinkHas e l → LinkHas f l
link_up up h = record { request = has_up up h.request; response = has_up up h.response }

-- ---- selects

-- a select's width can be printed
select_width : IsWidth 8
select_width = (omega arith, omega arith)

-- the selects are sound
good_selects : (x : Crossbar) → IsCrossbar x → (ins : List (List ℕ)) (hs : List ℕ) → ((h : ℕ) → Among h hs → Among h (hosts x.desc)) → Good ins (above1 x) (map (host_select x) hs)
good_selects x c ins [] all e up = sounds_none
good_selects x c ins (h ∷ hs) all e up =
    let few = short x c h (all h (inl refl)) in
    sounds_drive select_width (sel_named x c h) (deep (length (reach x.desc h)) few)
    (select_sound x (socket_link x.desc h).request 0 (reach x.desc h) (has_up up (socket_has x c h (all h (inl refl))).request) (omega (arith, few))
    (λ d m. let i = c.reaches h d (all h (inl refl)) m in record { each = c.ranges d i; some = c.some_range d i; few = c.few_ranges d i }))
    (good_selects x c ins hs (λ g m. all g (inr m)) (with_drive e (sel x.desc h) 8) (up_up up (up_drive e (sel x.desc h) 8))) where
      deep : (n : ℕ) → n ≤ 64 → 5 + n ≤ 128
      deep n h = omega arith

-- a select is declared behind all
given_select : (x : Crossbar) (f : Above) (hs : List ℕ) (h : ℕ) → AllOf (GivenBy f) (map (host_select x) hs) → Among h hs → Has f (sel x.desc h) 8
given_select x f [] h a i = absurd i
given_select x f (g ∷ gs) h a (inl e) = subst (λ z. Has f (sel x.desc z) 8) (sym e) a.0
given_select x f (g ∷ gs) h a (inr i) = given_select x f gs h a.1 i

-- what stands above the selects stands behind them
up12 : (x : Crossbar) → Up (above1 x) (above2 x)
up12 x = up_after (above1 x) (crossbar_selects x)

-- a select may be used
sel_has : (x : Crossbar) → IsCrossbar x → (h : ℕ) → Among h (hosts x.desc) → Has (above2 x) (sel x.desc h) 8
sel_has x c h i =
    given_select x (above2 x) (hosts x.desc) h (all_given (above1 x) (crossbar_selects x) (good_selects x c (ins_of x) (hosts x.desc) (λ g m. m) (above1 x) (same_up (above1 x))).printable) i

-- ---- parts

-- a clock may be used
clock_has : (x : Crossbar) (k : List ℕ) → IsName (clock_net k) → Among k (clocks x.desc) → Has (above1 x) (clock_net k) 1
clock_has x k n a = input_has x (clock_port k) (clock_in x k a) refl n

-- the crossbar's own clock
own_clock_has : (x : Crossbar) → IsCrossbar x → Has (above1 x) (clock_net x.desc.clock) 1
own_clock_has x c = clock_has x x.desc.clock (clock_named x.desc.clock c.clock) (own_clock x)

-- links of numbers may be used
links_have : (e : Above) (f : ℕ → Link) (is : List ℕ) → ((i : ℕ) → Among i is → LinkHas e (f i)) → LinksHave e (map f is)
links_have e f [] a = tt
links_have e f (i ∷ is) a = (a i (inl refl), links_have e f is (λ j m. a j (inr m)))

-- as many links as numbers
map_long : (f : ℕ → Link) (is : List ℕ) → length (map f is) ≡ length is
map_long f [] = refl
map_long f (i ∷ is) = ap suc (map_long f is)

-- a list that is not empty is long
some_long : (is : List ℕ) → IsSomeOf is → 0 < length is
some_long [] h = absurd h
some_long (i ∷ is) h = omega arith

-- what passes a test is no longer
filter_long : (p : ℕ → Bool) (is : List ℕ) → length (filter p is) ≤ length is
filter_long p [] = omega arith
filter_long p (i ∷ is) = by (p i) (filter_long p is) where
  by : (b : Bool) → length (filter p is) ≤ length is → length (cond b (i ∷ filter p is) (filter p is)) ≤ suc (length is)
  by true h = omega (arith, h)
  by false h = omega (arith, h)

-- a device has at most 64 hosts
feeders_few : (x : Crossbar) → IsCrossbar x → (d : ℕ) → length (feeders x.desc d) ≤ 64
unfolding feeders
feeders_few x c d = omega (arith, filter_long (λ h. is_in (reach x.desc h) d) (hosts x.desc), hosts_few x, c.few)

-- a host's parts are sound
good_host : (x : Crossbar) → IsCrossbar x → (ins : List (List ℕ)) (h : ℕ) → Among h (hosts x.desc) → Good ins (above2 x) (host_parts x.desc h)
good_host x c ins h i =
    let lanes : List Link = map (lane x.desc h) (reach x.desc h) in
    let long : length lanes ≡ length (reach x.desc h) = map_long (lane x.desc h) (reach x.desc h) in
    let few : length lanes ≤ 64 = omega (arith, long, short x c h i) in
    let some : 0 < length lanes = omega (arith, long, some_long (reach x.desc h) (c.some_device h i)) in
    good_join ins (above2 x) (entries_if (has_fifo x.desc h) (host_fifo_entry x.desc h ∷ [])) (host_split_entry x.desc h ∷ [])
    (good_if ins (above2 x) (has_fifo x.desc h) (host_fifo_entry x.desc h ∷ []) (λ t e up. fifo_sounds (codes "u_hf_" ++ label x.desc h) (node x.desc h).clock x.desc.clock (h_link x.desc h) (f_link x.desc h)
    (prefix_name (codes "u_hf_") (label x.desc h) refl refl (label_each x c h)) (has_up (up_up (up12 x) up) (clock_has x (node x.desc h).clock (clock_name x c h) (host_clock x h i))) (has_up (up_up (up12 x) up) (own_clock_has x c))
    (link_up (up_up (up12 x) up) (h_has x c h i)) (link_up (up_up (up12 x) up) (f_has x c h i t)) sounds_none))
    (λ e up. split_sounds (codes "u_s_" ++ label x.desc h) x.desc.clock (sel x.desc h) (socket_link x.desc h) lanes
    (prefix_name (codes "u_s_") (label x.desc h) refl refl (label_each x c h)) (has_up (up_up (up12 x) up) (own_clock_has x c)) (has_up up (sel_has x c h i))
    (link_up (up_up (up12 x) up) (socket_has x c h i)) (links_have e (lane x.desc h) (reach x.desc h) (λ d m. link_up (up_up (up12 x) up) (lane_has x c h d i m))) some few sounds_none)

-- a joined device has hosts
joined_some : (x : Crossbar) (d : ℕ) → is_joined x.desc d ≡ true → 0 < length (feeders x.desc d)
unfolding is_joined
joined_some x d t = grind (arith, nat_tests)

-- a device's parts are sound
good_device : (x : Crossbar) → IsCrossbar x → (ins : List (List ℕ)) (d : ℕ) → Among d (devices x.desc) → Good ins (above2 x) (device_parts x.desc d)
good_device x c ins d i =
    let long : length (join_lanes x.desc d) ≡ length (feeders x.desc d) = map_long (λ h. l_link x.desc h d) (feeders x.desc d) in
    let few : length (join_lanes x.desc d) ≤ 64 = omega (arith, long, feeders_few x c d) in
    good_join ins (above2 x) (entries_if (is_joined x.desc d) (device_join_entry x.desc d ∷ [])) (entries_if (has_fifo x.desc d) (device_fifo_entry x.desc d ∷ []))
    (good_if ins (above2 x) (is_joined x.desc d) (device_join_entry x.desc d ∷ []) (λ t e up. join_sounds (codes "u_m_" ++ label x.desc d) x.desc.clock (join_lanes x.desc d) (joined_link x.desc d)
    (prefix_name (codes "u_m_") (label x.desc d) refl refl (label_each x c d)) (has_up (up_up (up12 x) up) (own_clock_has x c))
    (links_have e (λ h. l_link x.desc h d) (feeders x.desc d) (λ h m. let both = feeder_is x.desc h d m in link_up (up_up (up12 x) up) (l_has x c h d both.0 both.1 t)))
    (link_up (up_up (up12 x) up) (device_has x c d i)) (omega (arith, long, joined_some x d t)) few sounds_none))
    (good_if ins (above2 x) (has_fifo x.desc d) (device_fifo_entry x.desc d ∷ []) (λ t e up. fifo_sounds (codes "u_df_" ++ label x.desc d) x.desc.clock (node x.desc d).clock (m_link x.desc d) (d_link x.desc d)
    (prefix_name (codes "u_df_") (label x.desc d) refl refl (label_each x c d)) (has_up (up_up (up12 x) up) (own_clock_has x c)) (has_up (up_up (up12 x) up) (clock_has x (node x.desc d).clock (clock_name x c d) (device_clock x d i)))
    (link_up (up_up (up12 x) up) (m_has x c d i t)) (link_up (up_up (up12 x) up) (d_has x c d i)) sounds_none))

-- all parts are sound
good_parts : (x : Crossbar) → IsCrossbar x → (ins : List (List ℕ)) → Good ins (above2 x) (crossbar_parts x.desc)
good_parts x c ins =
    good_join ins (above2 x) (flat_map (host_parts x.desc) (hosts x.desc)) (flat_map (device_parts x.desc) (devices x.desc))
    (good_flat ins (above2 x) (host_parts x.desc) (hosts x.desc) (good_host x c ins)) (good_flat ins (above2 x) (device_parts x.desc) (devices x.desc) (good_device x c ins))

-- ---- the whole

-- all entries are sound
entries_sound : (x : Crossbar) → IsCrossbar x → Sounds (ins_of x) (above0 x) (crossbar_entries x)
unfolding crossbar_entries
entries_sound x c =
    sounds_join (above0 x) (crossbar_wires x.desc) (crossbar_selects x ++ crossbar_parts x.desc) (good_wires x c (ins_of x) (above0 x) (above0 x) (same_up (above0 x)))
    (sounds_join (above1 x) (crossbar_selects x) (crossbar_parts x.desc) (good_selects x c (ins_of x) (hosts x.desc) (λ g m. m) (above1 x) (same_up (above1 x)))
    (good_parts x c (ins_of x) (above2 x) (same_up (above2 x))))

-- there is a port
some_port : (x : Crossbar) → IsSomeOf (crossbar_ports x.desc)
unfolding crossbar_ports clocks
some_port x = tt

-- The module is well formed where no name stands twice.
pub crossbar_well_formed : (x : Crossbar) → IsCrossbar x → Differ (module_names (crossbar_module x)) → WellFormed (crossbar_module x)
unfolding crossbar_module
crossbar_well_formed x c d =
    let sounds = entries_sound x c in
    let balanced = crossbar_balanced x c in
    record {
      printable = record {
        name = prefix_name (codes "xbar_") x.desc.name refl refl c.name;
        some_port = some_port x;
        ports = ports_printable x c;
        entries = sounds.printable;
      };
      names_differ = d;
      entries_fit = sounds.fit;
      drivers_differ = balanced_drivers_differ (crossbar_module x) balanced d;
      outputs_driven = balanced_outputs_driven (crossbar_module x) balanced;
      wires_driven = balanced_wires_driven (crossbar_module x) balanced;
      inputs_free = balanced_inputs_free (crossbar_module x) balanced d;
    }
