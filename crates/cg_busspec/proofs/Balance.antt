-- The drivers of a crossbar's module: its parts drive just its links and its outputs.
use Rattle.std.proofs.Common.{◌≡◌, ℕ, suc, ◌+◌, ◌<◌, leb, Bool, true, false, cond, arith, List, [], ◌∷◌, ◌++◌, map, reverse, length, refl, ap, sym, ◌∙◌, codes}
use Rattle.std.specs.Prelude.{flat_map}
use Rattle.std.specs.Str.{bytes_eq}
use Rattle.std.proofs.lemmas.List.{reverse-append}
use Rattle.std.proofs.lemmas.Bool.Decides.{nat_tests}
use Rattle.cg_svspec.specs.Tree.{Port, Entry, wire, drive, assign, inst}
use Rattle.cg_svspec.specs.Printable.{IsSomeOf}
use Rattle.cg_svspec.specs.WellFormed.{instance_driven, driven_by_connections, inputs_of, outputs_of}
use Rattle.cg_svspec.specs.Links.{Link}
use Rattle.cg_busspec.specs.Crossbar.{Crossbar, node, hosts, devices, label, reach, feeders, is_joined, has_fifo}
use Rattle.cg_busspec.proofs.Good.{IsCrossbar}
use Rattle.cg_busspec.specs.CrossbarModule.{h_link, f_link, l_link, m_link, d_link, sel, socket_link, joined_link, lane, clocks, clock_port, host_ports, device_ports, crossbar_ports, entries_if, link_wires, host_wires, lane_wires, host_lanes, device_wires, host_select, requests, responses, fifo_instance, split_instance, join_instance, host_fifo_entry, host_split_entry, device_join_entry, device_fifo_entry, host_parts, device_parts, join_lanes, crossbar_wires, crossbar_selects, crossbar_parts, crossbar_entries, crossbar_module}
use Rattle.cg_busspec.proofs.PartWays.{bundle_drives}
use Rattle.cg_busspec.proofs.NumberLists.{outputs_join}
use Rattle.cg_svspec.proofs.WellCounts.{one_if, count, count-append, plain_of, assigned_of, Balanced}
use Rattle.cg_busspec.proofs.Sums.{total, count_if, total_same, total_sum, total_pairs, devices_once}

-- ---- counts in lists put together

-- what entries drive by instances and assignments, and the plain wires that they declare
abbrev drives : List ℕ → List (List ℕ) → List Entry → ℕ
drives n ins es = count n (assigned_of es) + count n (instance_driven ins es)

-- the plain wires that they declare
abbrev plains : List ℕ → List Entry → ℕ
plains n es = count n (plain_of es)

-- both add up over lists
drives_join : (n : List ℕ) (ins : List (List ℕ)) (xs ys : List Entry) → drives n ins (xs ++ ys) ≡ drives n ins xs + drives n ins ys
drives_join n ins [] ys = omega arith
drives_join n ins (wire w m ∷ xs) ys = drives_join n ins xs ys
drives_join n ins (drive w m x ∷ xs) ys = drives_join n ins xs ys
drives_join n ins (assign m x ∷ xs) ys = omega (arith, drives_join n ins xs ys)
drives_join n ins (inst p ps m cs ∷ xs) ys =
    omega (arith, drives_join n ins xs ys, count-append n (driven_by_connections ins p cs) (instance_driven ins (xs ++ ys)), count-append n (driven_by_connections ins p cs) (instance_driven ins xs))

-- of plain wires
plains_join : (n : List ℕ) (xs ys : List Entry) → plains n (xs ++ ys) ≡ plains n xs + plains n ys
plains_join n [] ys = omega arith
plains_join n (wire w m ∷ xs) ys = omega (arith, plains_join n xs ys)
plains_join n (drive w m x ∷ xs) ys = plains_join n xs ys
plains_join n (assign m x ∷ xs) ys = plains_join n xs ys
plains_join n (inst p ps m cs ∷ xs) ys = plains_join n xs ys

-- over numbers
drives_flat : (n : List ℕ) (ins : List (List ℕ)) (f : ℕ → List Entry) (is : List ℕ) → drives n ins (flat_map f is) ≡ total (λ i. drives n ins (f i)) is
drives_flat n ins f [] = omega arith
drives_flat n ins f (i ∷ is) = omega (arith, drives_join n ins (f i) (flat_map f is), drives_flat n ins f is)

-- of plain wires
plains_flat : (n : List ℕ) (f : ℕ → List Entry) (is : List ℕ) → plains n (flat_map f is) ≡ total (λ i. plains n (f i)) is
plains_flat n f [] = omega arith
plains_flat n f (i ∷ is) = omega (arith, plains_join n (f i) (flat_map f is), plains_flat n f is)

-- where a test holds
drives_if : (n : List ℕ) (ins : List (List ℕ)) (b : Bool) (es : List Entry) → drives n ins (entries_if b es) ≡ count_if b (drives n ins es)
drives_if n ins true es = refl
drives_if n ins false es = omega arith

-- of plain wires
plains_if : (n : List ℕ) (b : Bool) (es : List Entry) → plains n (entries_if b es) ≡ count_if b (plains n es)
plains_if n true es = refl
plains_if n false es = refl

-- outputs add up over numbers
outputs_flat : (n : List ℕ) (f : ℕ → List Port) (is : List ℕ) → count n (outputs_of (flat_map f is)) ≡ total (λ i. count n (outputs_of (f i))) is
outputs_flat n f [] = refl
outputs_flat n f (i ∷ is) = ap (count n) (outputs_join (f i) (flat_map f is)) ∙ omega (arith, count-append n (outputs_of (f i)) (outputs_of (flat_map f is)), outputs_flat n f is)

-- clocks are no outputs
no_outputs : (cs : List (List ℕ)) → outputs_of (map clock_port cs) ≡ []
no_outputs [] = refl
no_outputs (c ∷ cs) = no_outputs cs

-- a list in the reverse order has the same counts
count_reverse : (n : List ℕ) (xs : List (List ℕ)) → count n (reverse xs) ≡ count n xs
count_reverse n [] = refl
count_reverse n (x ∷ xs) = ap (count n) (reverse-append (x ∷ []) xs) ∙ omega (arith, count-append n (reverse xs) (x ∷ []), count_reverse n xs)

-- 1 where this is the name
abbrev at : List ℕ → List ℕ → ℕ
at n m = one_if (bytes_eq n m)

-- requests are counted number by number
count_requests : (n : List ℕ) (f : ℕ → Link) (is : List ℕ) → count n (requests (map f is)) ≡ total (λ i. at n (f i).request) is
count_requests n f [] = refl
count_requests n f (i ∷ is) = omega (arith, count_requests n f is)

-- so are responses
count_responses : (n : List ℕ) (f : ℕ → Link) (is : List ℕ) → count n (responses (map f is)) ≡ total (λ i. at n (f i).response) is
count_responses n f [] = refl
count_responses n f (i ∷ is) = omega (arith, count_responses n f is)

-- ---- parts

-- a FIFO drives its response and its request
fifo_drives : (n : List ℕ) (ins : List (List ℕ)) (name near far : List ℕ) (a b : Link) → drives n ins (fifo_instance name near far a b ∷ []) ≡ at n a.response + at n b.request
unfolding fifo_instance
fifo_drives n ins name near far a b = omega arith

-- a 1-to-N socket its response and its requests
split_drives : (n : List ℕ) (ins : List (List ℕ)) (name clock s : List ℕ) (a : Link) (bs : List Link) → drives n ins (split_instance name clock s a bs ∷ []) ≡ at n a.response + count n (requests bs)
unfolding split_instance
split_drives n ins name clock s a bs =
    rw (bundle_drives (requests bs)) (omega (arith, count-append n (reverse (requests bs) ++ []) [], count-append n (reverse (requests bs)) [], count_reverse n (requests bs)))

-- an M-to-1 socket its responses and its request
join_drives : (n : List ℕ) (ins : List (List ℕ)) (name clock : List ℕ) (ls : List Link) (b : Link) → drives n ins (join_instance name clock ls b ∷ []) ≡ count n (responses ls) + at n b.request
unfolding join_instance
join_drives n ins name clock ls b =
    rw (bundle_drives (responses ls)) (omega (arith, count-append n (reverse (responses ls) ++ (b.request ∷ [])) [], count-append n (reverse (responses ls)) (b.request ∷ []), count_reverse n (responses ls)))

-- what a host's socket answers on
socket_answers : (x : Crossbar) (h : ℕ) (n : List ℕ) → count_if (has_fifo x.desc h) (at n (h_link x.desc h).response + at n (f_link x.desc h).request) + at n (socket_link x.desc h).response
    ≡ at n (h_link x.desc h).response + count_if (has_fifo x.desc h) (at n (f_link x.desc h).request + at n (f_link x.desc h).response)
unfolding socket_link
socket_answers x h n = by (has_fifo x.desc h) where
  by : (b : Bool) → count_if b (at n (h_link x.desc h).response + at n (f_link x.desc h).request) + at n (cond b (f_link x.desc h) (h_link x.desc h)).response
      ≡ at n (h_link x.desc h).response + count_if b (at n (f_link x.desc h).request + at n (f_link x.desc h).response)
  by true = omega arith
  by false = omega arith

-- a host's parts
host_drives : (x : Crossbar) (n : List ℕ) (ins : List (List ℕ)) (h : ℕ) → drives n ins (host_parts x.desc h)
    ≡ (at n (h_link x.desc h).response + count_if (has_fifo x.desc h) (at n (f_link x.desc h).request + at n (f_link x.desc h).response)) + total (λ d. at n (lane x.desc h d).request) (reach x.desc h)
host_drives x n ins h =
    let fifo = drives_if n ins (has_fifo x.desc h) (host_fifo_entry x.desc h ∷ []) ∙ ap (count_if (has_fifo x.desc h)) (fifo_drives n ins (codes "u_hf_" ++ label x.desc h) (node x.desc h).clock x.desc.clock (h_link x.desc h) (f_link x.desc h)) in
    let split = split_drives n ins (codes "u_s_" ++ label x.desc h) x.desc.clock (sel x.desc h) (socket_link x.desc h) (map (lane x.desc h) (reach x.desc h)) in
    drives_join n ins (entries_if (has_fifo x.desc h) (host_fifo_entry x.desc h ∷ [])) (host_split_entry x.desc h ∷ [])
    ∙ rw (fifo, split, count_requests n (lane x.desc h) (reach x.desc h)) (omega (arith, socket_answers x h n))

-- a device's parts
device_drives : (x : Crossbar) (n : List ℕ) (ins : List (List ℕ)) (d : ℕ) → drives n ins (device_parts x.desc d)
    ≡ count_if (is_joined x.desc d) (total (λ h. at n (l_link x.desc h d).response) (feeders x.desc d) + at n (joined_link x.desc d).request) + count_if (has_fifo x.desc d) (at n (m_link x.desc d).response + at n (d_link x.desc d).request)
device_drives x n ins d =
    let join = drives_if n ins (is_joined x.desc d) (device_join_entry x.desc d ∷ []) ∙ ap (count_if (is_joined x.desc d)) (join_drives n ins (codes "u_m_" ++ label x.desc d) x.desc.clock (join_lanes x.desc d) (joined_link x.desc d)
    ∙ ap (λ z. z + at n (joined_link x.desc d).request) (count_responses n (λ h. l_link x.desc h d) (feeders x.desc d))) in
    let fifo = drives_if n ins (has_fifo x.desc d) (device_fifo_entry x.desc d ∷ []) ∙ ap (count_if (has_fifo x.desc d)) (fifo_drives n ins (codes "u_df_" ++ label x.desc d) x.desc.clock (node x.desc d).clock (m_link x.desc d) (d_link x.desc d)) in
    drives_join n ins (entries_if (is_joined x.desc d) (device_join_entry x.desc d ∷ [])) (entries_if (has_fifo x.desc d) (device_fifo_entry x.desc d ∷ [])) ∙ rw (join, fifo) refl

-- two wires of a link
link_plains : (n : List ℕ) (l : Link) → plains n (link_wires l) ≡ at n l.request + at n l.response
link_plains n l = omega arith

-- ---- one device

-- a list of one number
one_feeder : (f : ℕ) (is : List ℕ) → IsSomeOf is → leb 2 (length is) ≡ false → total (λ h. f) is ≡ f
one_feeder f [] some few = absurd some
one_feeder f (i ∷ []) some few = omega arith
one_feeder f (i ∷ (j ∷ js)) some few = absurd (omega (arith, less js few)) where
  less : (js : List ℕ) → leb 2 (suc (suc (length js))) ≡ false → suc (suc (length js)) < 2
  less js e = grind (arith, nat_tests)

-- a sum of zeros
no_lanes : (is : List ℕ) → total (λ h. 0) is ≡ 0
no_lanes [] = refl
no_lanes (i ∷ is) = omega (arith, no_lanes is)

-- what a device's parts ask on
device_request : (x : Crossbar) (d : ℕ) (n : List ℕ) → at n (joined_link x.desc d).request + count_if (has_fifo x.desc d) (at n (m_link x.desc d).response + at n (d_link x.desc d).request)
    ≡ count_if (has_fifo x.desc d) (at n (m_link x.desc d).request + at n (m_link x.desc d).response) + at n (d_link x.desc d).request
unfolding joined_link
device_request x d n = by (has_fifo x.desc d) where
  by : (b : Bool) → at n (cond b (m_link x.desc d) (d_link x.desc d)).request + count_if b (at n (m_link x.desc d).response + at n (d_link x.desc d).request)
      ≡ count_if b (at n (m_link x.desc d).request + at n (m_link x.desc d).response) + at n (d_link x.desc d).request
  by true = omega arith
  by false = omega arith

-- a device's parts drive its links and its port
device_balance : (x : Crossbar) (d : ℕ) (n : List ℕ) → IsSomeOf (feeders x.desc d)
    → total (λ h. at n (lane x.desc h d).request) (feeders x.desc d)
    + (count_if (is_joined x.desc d) (total (λ h. at n (l_link x.desc h d).response) (feeders x.desc d) + at n (joined_link x.desc d).request) + count_if (has_fifo x.desc d) (at n (m_link x.desc d).response + at n (d_link x.desc d).request))
    ≡ total (λ h. count_if (is_joined x.desc d) (at n (l_link x.desc h d).request + at n (l_link x.desc h d).response)) (feeders x.desc d)
    + (count_if (has_fifo x.desc d) (at n (m_link x.desc d).request + at n (m_link x.desc d).response) + at n (d_link x.desc d).request)
unfolding lane is_joined
device_balance x d n some = by (leb 2 (length (feeders x.desc d))) refl where
  by : (b : Bool) → leb 2 (length (feeders x.desc d)) ≡ b → total (λ h. at n (cond b (l_link x.desc h d) (joined_link x.desc d)).request) (feeders x.desc d)
      + (count_if b (total (λ h. at n (l_link x.desc h d).response) (feeders x.desc d) + at n (joined_link x.desc d).request) + count_if (has_fifo x.desc d) (at n (m_link x.desc d).response + at n (d_link x.desc d).request))
      ≡ total (λ h. count_if b (at n (l_link x.desc h d).request + at n (l_link x.desc h d).response)) (feeders x.desc d)
      + (count_if (has_fifo x.desc d) (at n (m_link x.desc d).request + at n (m_link x.desc d).response) + at n (d_link x.desc d).request)
  by true e = omega (arith, total_sum (λ h. at n (l_link x.desc h d).request) (λ h. at n (l_link x.desc h d).response) (feeders x.desc d), device_request x d n)
  by false e = omega (arith, one_feeder (at n (joined_link x.desc d).request) (feeders x.desc d) some e, no_lanes (feeders x.desc d), device_request x d n)

-- ---- all

-- of all selects nothing
selects_drive : (x : Crossbar) (n : List ℕ) (ins : List (List ℕ)) (hs : List ℕ) → drives n ins (map (host_select x) hs) ≡ 0
selects_drive x n ins [] = refl
selects_drive x n ins (h ∷ hs) = selects_drive x n ins hs

-- selects are no plain wires
selects_plain : (x : Crossbar) (n : List ℕ) (hs : List ℕ) → plains n (map (host_select x) hs) ≡ 0
selects_plain x n [] = refl
selects_plain x n (h ∷ hs) = selects_plain x n hs

-- wires drive nothing
wires_drive : (x : Crossbar) (n : List ℕ) (ins : List (List ℕ)) → drives n ins (crossbar_wires x.desc) ≡ 0
wires_drive x n ins =
    omega (
      arith,
      drives_join n ins (flat_map (host_wires x.desc) (hosts x.desc)) (flat_map (host_lanes x.desc) (hosts x.desc) ++ flat_map (device_wires x.desc) (devices x.desc)),
      drives_join n ins (flat_map (host_lanes x.desc) (hosts x.desc)) (flat_map (device_wires x.desc) (devices x.desc)),
      none (host_wires x.desc) (hosts x.desc) (λ h. links (has_fifo x.desc h) (f_link x.desc h)),
      none (host_lanes x.desc) (hosts x.desc) (λ h. none (lane_wires x.desc h) (reach x.desc h) (λ d. links (is_joined x.desc d) (l_link x.desc h d))),
      none (device_wires x.desc) (devices x.desc) (λ d. links (has_fifo x.desc d) (m_link x.desc d)),
    ) where
      links : (b : Bool) (l : Link) → drives n ins (entries_if b (link_wires l)) ≡ 0
      links true l = refl
      links false l = refl

      none : (f : ℕ → List Entry) (is : List ℕ) → ((i : ℕ) → drives n ins (f i) ≡ 0) → drives n ins (flat_map f is) ≡ 0
      none f is zero_each = drives_flat n ins f is ∙ total_same (λ i. drives n ins (f i)) (λ i. 0) is (λ i m. zero_each i) ∙ no_lanes is

-- parts declare nothing
parts_plain : (x : Crossbar) (n : List ℕ) → plains n (crossbar_parts x.desc) ≡ 0
unfolding fifo_instance split_instance join_instance
parts_plain x n =
    omega (
      arith,
      plains_join n (flat_map (host_parts x.desc) (hosts x.desc)) (flat_map (device_parts x.desc) (devices x.desc)),
      none (host_parts x.desc) (hosts x.desc) (λ h. host (has_fifo x.desc h) h),
      none (device_parts x.desc) (devices x.desc) (λ d. device (is_joined x.desc d) (has_fifo x.desc d) d),
    ) where
      host : (b : Bool) (h : ℕ) → plains n (entries_if b (host_fifo_entry x.desc h ∷ []) ++ (host_split_entry x.desc h ∷ [])) ≡ 0
      host true h = refl
      host false h = refl

      device : (b c : Bool) (d : ℕ) → plains n (entries_if b (device_join_entry x.desc d ∷ []) ++ entries_if c (device_fifo_entry x.desc d ∷ [])) ≡ 0
      device true true d = refl
      device true false d = refl
      device false true d = refl
      device false false d = refl

      none : (f : ℕ → List Entry) (is : List ℕ) → ((i : ℕ) → plains n (f i) ≡ 0) → plains n (flat_map f is) ≡ 0
      none f is zero_each = plains_flat n f is ∙ total_same (λ i. plains n (f i)) (λ i. 0) is (λ i m. zero_each i) ∙ no_lanes is

-- what all parts drive
parts_drive : (x : Crossbar) (n : List ℕ) (ins : List (List ℕ)) → drives n ins (crossbar_parts x.desc)
    ≡ (total (λ h. at n (h_link x.desc h).response + count_if (has_fifo x.desc h) (at n (f_link x.desc h).request + at n (f_link x.desc h).response)) (hosts x.desc) + total (λ h. total (λ d. at n (lane x.desc h d).request) (reach x.desc h)) (hosts x.desc))
    + total (λ d. count_if (is_joined x.desc d) (total (λ h. at n (l_link x.desc h d).response) (feeders x.desc d) + at n (joined_link x.desc d).request) + count_if (has_fifo x.desc d) (at n (m_link x.desc d).response + at n (d_link x.desc d).request)) (devices x.desc)
parts_drive x n ins =
    drives_join n ins (flat_map (host_parts x.desc) (hosts x.desc)) (flat_map (device_parts x.desc) (devices x.desc))
    ∙ rw (
      drives_flat n ins (host_parts x.desc) (hosts x.desc),
      drives_flat n ins (device_parts x.desc) (devices x.desc),
      total_same _ _ (hosts x.desc) (λ h m. host_drives x n ins h),
      total_same _ _ (devices x.desc) (λ d m. device_drives x n ins d),
      total_sum (λ h. at n (h_link x.desc h).response + count_if (has_fifo x.desc h) (at n (f_link x.desc h).request + at n (f_link x.desc h).response)) (λ h. total (λ d. at n (lane x.desc h d).request) (reach x.desc h)) (hosts x.desc),
    ) refl

-- the plain wires
wires_plain : (x : Crossbar) (n : List ℕ) → plains n (crossbar_wires x.desc)
    ≡ (total (λ h. count_if (has_fifo x.desc h) (at n (f_link x.desc h).request + at n (f_link x.desc h).response)) (hosts x.desc)
    + total (λ h. total (λ d. count_if (is_joined x.desc d) (at n (l_link x.desc h d).request + at n (l_link x.desc h d).response)) (reach x.desc h)) (hosts x.desc))
    + total (λ d. count_if (has_fifo x.desc d) (at n (m_link x.desc d).request + at n (m_link x.desc d).response)) (devices x.desc)
wires_plain x n =
    let links : (b : Bool) (l : Link) → plains n (entries_if b (link_wires l)) ≡ count_if b (at n l.request + at n l.response) =
    λ b l. plains_if n b (link_wires l) ∙ ap (count_if b) (link_plains n l) in
    let of_hosts = plains_flat n (host_wires x.desc) (hosts x.desc) ∙ total_same (λ h. plains n (host_wires x.desc h)) (λ h. count_if (has_fifo x.desc h) (at n (f_link x.desc h).request + at n (f_link x.desc h).response)) (hosts x.desc) (λ h m. links (has_fifo x.desc h) (f_link x.desc h)) in
    let of_lanes = plains_flat n (host_lanes x.desc) (hosts x.desc) ∙ total_same (λ h. plains n (host_lanes x.desc h)) (λ h. total (λ d. count_if (is_joined x.desc d) (at n (l_link x.desc h d).request + at n (l_link x.desc h d).response)) (reach x.desc h)) (hosts x.desc)
    (λ h m. plains_flat n (lane_wires x.desc h) (reach x.desc h)
    ∙ total_same (λ d. plains n (lane_wires x.desc h d)) (λ d. count_if (is_joined x.desc d) (at n (l_link x.desc h d).request + at n (l_link x.desc h d).response)) (reach x.desc h) (λ d k. links (is_joined x.desc d) (l_link x.desc h d))) in
    let of_devices = plains_flat n (device_wires x.desc) (devices x.desc) ∙ total_same (λ d. plains n (device_wires x.desc d)) (λ d. count_if (has_fifo x.desc d) (at n (m_link x.desc d).request + at n (m_link x.desc d).response)) (devices x.desc) (λ d m. links (has_fifo x.desc d) (m_link x.desc d)) in
    omega (
      arith,
      plains_join n (flat_map (host_wires x.desc) (hosts x.desc)) (flat_map (host_lanes x.desc) (hosts x.desc) ++ flat_map (device_wires x.desc) (devices x.desc)),
      plains_join n (flat_map (host_lanes x.desc) (hosts x.desc)) (flat_map (device_wires x.desc) (devices x.desc)),
      of_hosts,
      of_lanes,
      of_devices,
    )

-- the outputs
all_outputs : (x : Crossbar) (n : List ℕ) → count n (outputs_of (crossbar_ports x.desc)) ≡ total (λ h. at n (h_link x.desc h).response) (hosts x.desc) + total (λ d. at n (d_link x.desc d).request) (devices x.desc)
unfolding crossbar_ports
all_outputs x n =
    let of_hosts = outputs_flat n (host_ports x.desc) (hosts x.desc) ∙ total_same (λ h. count n (outputs_of (host_ports x.desc h))) (λ h. at n (h_link x.desc h).response) (hosts x.desc) (λ h m. single (at n (h_link x.desc h).response)) in
    let of_devices = outputs_flat n (device_ports x.desc) (devices x.desc) ∙ total_same (λ d. count n (outputs_of (device_ports x.desc d))) (λ d. at n (d_link x.desc d).request) (devices x.desc) (λ d m. single (at n (d_link x.desc d).request)) in
    rw (outputs_join (map clock_port (clocks x.desc)) (flat_map (host_ports x.desc) (hosts x.desc) ++ flat_map (device_ports x.desc) (devices x.desc)), no_outputs (clocks x.desc), outputs_join (flat_map (host_ports x.desc) (hosts x.desc)) (flat_map (device_ports x.desc) (devices x.desc)))
    (omega (arith, count-append n (outputs_of (flat_map (host_ports x.desc) (hosts x.desc))) (outputs_of (flat_map (device_ports x.desc) (devices x.desc))), of_hosts, of_devices)) where
      single : (k : ℕ) → k + 0 ≡ k
      single k = omega arith

-- the lanes of hosts, by their devices
lanes_by_device : (x : Crossbar) → IsCrossbar x → (f : ℕ → ℕ → ℕ) → total (λ h. total (f h) (reach x.desc h)) (hosts x.desc) ≡ total (λ d. total (λ h. f h d) (feeders x.desc d)) (devices x.desc)
unfolding feeders
lanes_by_device x c f = total_pairs f (reach x.desc) (hosts x.desc) (devices x.desc) (devices_once x) c.once c.reaches

-- all devices
devices_balance : (x : Crossbar) → IsCrossbar x → (n : List ℕ)
    → total (λ h. total (λ d. at n (lane x.desc h d).request) (reach x.desc h)) (hosts x.desc)
    + total (λ d. count_if (is_joined x.desc d) (total (λ h. at n (l_link x.desc h d).response) (feeders x.desc d) + at n (joined_link x.desc d).request) + count_if (has_fifo x.desc d) (at n (m_link x.desc d).response + at n (d_link x.desc d).request)) (devices x.desc)
    ≡ total (λ h. total (λ d. count_if (is_joined x.desc d) (at n (l_link x.desc h d).request + at n (l_link x.desc h d).response)) (reach x.desc h)) (hosts x.desc)
    + (total (λ d. count_if (has_fifo x.desc d) (at n (m_link x.desc d).request + at n (m_link x.desc d).response)) (devices x.desc) + total (λ d. at n (d_link x.desc d).request) (devices x.desc))
devices_balance x c n =
    let one : ℕ → ℕ = λ d. total (λ h. at n (lane x.desc h d).request) (feeders x.desc d) in
    let two : ℕ → ℕ = λ d. count_if (is_joined x.desc d) (total (λ h. at n (l_link x.desc h d).response) (feeders x.desc d) + at n (joined_link x.desc d).request) + count_if (has_fifo x.desc d) (at n (m_link x.desc d).response + at n (d_link x.desc d).request) in
    let three : ℕ → ℕ = λ d. total (λ h. count_if (is_joined x.desc d) (at n (l_link x.desc h d).request + at n (l_link x.desc h d).response)) (feeders x.desc d) in
    let four : ℕ → ℕ = λ d. count_if (has_fifo x.desc d) (at n (m_link x.desc d).request + at n (m_link x.desc d).response) in
    let five : ℕ → ℕ = λ d. at n (d_link x.desc d).request in
    let left = lanes_by_device x c (λ h d. at n (lane x.desc h d).request) in
    let right = lanes_by_device x c (λ h d. count_if (is_joined x.desc d) (at n (l_link x.desc h d).request + at n (l_link x.desc h d).response)) in
    let each = total_same (λ d. one d + two d) (λ d. three d + (four d + five d)) (devices x.desc) (λ d m. device_balance x d n (c.some_host d m)) in
    rw (left, right) (sym (total_sum one two (devices x.desc)) ∙ each ∙ total_sum three (λ d. four d + five d) (devices x.desc) ∙ ap (λ z. total three (devices x.desc) + z) (total_sum four five (devices x.desc)))

-- Every link and every output is driven just once.
pub crossbar_balanced : (x : Crossbar) → IsCrossbar x → Balanced (crossbar_module x)
unfolding crossbar_module crossbar_entries
crossbar_balanced x c = record {
  driven = λ n.
      let ins : List (List ℕ) = inputs_of (crossbar_ports x.desc) in
      omega (
        arith,
        drives_join n ins (crossbar_wires x.desc) (crossbar_selects x ++ crossbar_parts x.desc),
        drives_join n ins (crossbar_selects x) (crossbar_parts x.desc),
        wires_drive x n ins,
        selects_drive x n ins (hosts x.desc),
        parts_drive x n ins,
        plains_join n (crossbar_wires x.desc) (crossbar_selects x ++ crossbar_parts x.desc),
        plains_join n (crossbar_selects x) (crossbar_parts x.desc),
        wires_plain x n,
        selects_plain x n (hosts x.desc),
        parts_plain x n,
        all_outputs x n,
        devices_balance x c n,
        total_sum (λ h. at n (h_link x.desc h).response) (λ h. count_if (has_fifo x.desc h) (at n (f_link x.desc h).request + at n (f_link x.desc h).response)) (hosts x.desc),
      );
}
