-- The steps of a way inside a crossbar.
use Rattle.std.proofs.Common.{◌≡◌, ℕ, suc, ◌^◌, ◌<◌, ◌≤◌, ◌+◌, Bool, true, false, cond, arith, inl, inr, List, [], ◌∷◌, ◌++◌, map, length, refl, ap, sym, ◌∙◌, Option, Some, codes}
use Rattle.std.specs.Prelude.{flat_map, slice_get}
use Rattle.std.proofs.lemmas.List.{append_assoc, append_cancel_left}
use Rattle.cg_svspec.specs.Bits.{Bits, bits}
use Rattle.cg_svspec.specs.Tree.{net, Entry}
use Rattle.cg_svspec.specs.Names.{is_among, Among}
use Rattle.cg_svspec.specs.WellFormed.{Net}
use Rattle.cg_svspec.specs.Links.{Link, Known, to, leaves, to_link, inside, known_of, number, selected}
use Rattle.cg_busspec.specs.Crossbar.{device_ranges, Crossbar, node, hosts, devices, label, reach, feeders, is_joined, has_fifo, some_holds}
use Rattle.cg_busspec.proofs.Good.{IsCrossbar}
use Rattle.cg_busspec.specs.CrossbarModule.{h_link, f_link, l_link, m_link, d_link, sel, socket_link, joined_link, lane, entries_if, link_wires, host_wires, lane_wires, host_lanes, device_wires, host_select, host_fifo_entry, host_split_entry, device_join_entry, device_fifo_entry, host_parts, device_parts, join_lanes, requests, crossbar_wires, crossbar_selects, crossbar_parts, crossbar_entries, crossbar_module}
use Rattle.cg_busspec.proofs.PartWays.{through, Skips, skips_join, skips_if, skips_flat, through_flat, fifo_skips, fifo_goes, split_skips, split_goes, join_skips, join_goes}
use Rattle.cg_busspec.proofs.Places.{NamesDiffer, all_nets, h_declared, d_declared, f_declared, m_declared, socket_declared, device_declared, lane_declared, links_declared, feeder_is, feeder_has, join_declared}
use Rattle.cg_busspec.proofs.Owners.{clash, same_host, same_device, same_lane, is_output_net, h_no_output, d_is_output, f_no_output, l_no_output, m_no_output}
use Rattle.cg_busspec.proofs.Numbers.{number-bits}
use Rattle.cg_busspec.proofs.Selects.{address_bits, first_with}
use Rattle.cg_busspec.proofs.Sums.{short}
use Rattle.cg_busspec.proofs.Knows.{select_told}

-- the other lists of entries take no request
wires_skip : (nets : List Net) (k : Known) (l : Link) (x : Crossbar) → Skips nets k l (crossbar_wires x.desc)
wires_skip nets k l x =
    skips_join nets k l (flat_map (host_wires x.desc) (hosts x.desc)) (flat_map (host_lanes x.desc) (hosts x.desc) ++ flat_map (device_wires x.desc) (devices x.desc))
    (skips_flat nets k l (host_wires x.desc) (hosts x.desc) (λ h i. skips_if nets k l (has_fifo x.desc h) (link_wires (f_link x.desc h)) (λ e rest. refl)))
    (skips_join nets k l (flat_map (host_lanes x.desc) (hosts x.desc)) (flat_map (device_wires x.desc) (devices x.desc))
    (skips_flat nets k l (host_lanes x.desc) (hosts x.desc) (λ h i. skips_flat nets k l (lane_wires x.desc h) (reach x.desc h) (λ d j. skips_if nets k l (is_joined x.desc d) (link_wires (l_link x.desc h d)) (λ e rest. refl))))
    (skips_flat nets k l (device_wires x.desc) (devices x.desc) (λ d i. skips_if nets k l (has_fifo x.desc d) (link_wires (m_link x.desc d)) (λ e rest. refl))))

-- nor do selects
selects_skip : (nets : List Net) (k : Known) (l : Link) (x : Crossbar) (hs : List ℕ) → Skips nets k l (map (host_select x) hs)
selects_skip nets k l x [] rest = refl
selects_skip nets k l x (h ∷ hs) rest = selects_skip nets k l x hs rest

-- nothing behind a list
nothing_behind : (xs : List Entry) → xs ++ [] ≡ xs
nothing_behind [] = refl
nothing_behind (x ∷ xs) = ap (λ z. x ∷ z) (nothing_behind xs)

-- what is known where these nets hold the request
abbrev known : Crossbar → Bits → List (List ℕ) → Known
known x request held = known_of (crossbar_module x) request held

-- through a host's parts, or a device's
through_host : (x : Crossbar) (k : Known) (l : Link) (h : ℕ) (r : Option Link) → Among h (hosts x.desc)
    → ((g : ℕ) → Among g (hosts x.desc) → (g ≡ h → ⊥) → Skips (all_nets x) k l (host_parts x.desc g)) → ((rest : List Entry) → through (all_nets x) k l (host_parts x.desc h ++ rest) ≡ r)
    → through (all_nets x) k l (crossbar_entries x) ≡ r
unfolding crossbar_entries
through_host x k l h r i others here =
    wires_skip (all_nets x) k l x (crossbar_selects x ++ crossbar_parts x.desc) ∙ selects_skip (all_nets x) k l x (hosts x.desc) (crossbar_parts x.desc)
    ∙ through_flat (all_nets x) k l (host_parts x.desc) (hosts x.desc) h r i others here (flat_map (device_parts x.desc) (devices x.desc))

-- or through a device's
through_device : (x : Crossbar) (k : Known) (l : Link) (d : ℕ) (r : Option Link) → Among d (devices x.desc)
    → ((h : ℕ) → Among h (hosts x.desc) → Skips (all_nets x) k l (host_parts x.desc h))
    → ((e : ℕ) → Among e (devices x.desc) → (e ≡ d → ⊥) → Skips (all_nets x) k l (device_parts x.desc e)) → ((rest : List Entry) → through (all_nets x) k l (device_parts x.desc d ++ rest) ≡ r)
    → through (all_nets x) k l (crossbar_entries x) ≡ r
unfolding crossbar_entries
through_device x k l d r i hosts_skip others here =
    wires_skip (all_nets x) k l x (crossbar_selects x ++ crossbar_parts x.desc) ∙ selects_skip (all_nets x) k l x (hosts x.desc) (crossbar_parts x.desc)
    ∙ skips_flat (all_nets x) k l (host_parts x.desc) (hosts x.desc) hosts_skip (flat_map (device_parts x.desc) (devices x.desc))
    ∙ ap (through (all_nets x) k l) (sym (nothing_behind (flat_map (device_parts x.desc) (devices x.desc))))
    ∙ through_flat (all_nets x) k l (device_parts x.desc) (devices x.desc) d r i others here []

-- a step inside, where the net is no output
inside_goes : (x : Crossbar) (request : Bits) (held : List (List ℕ)) (l : Link) (r : Option Link) → is_output_net x l.request ≡ false
    → through (all_nets x) (known x request held) l (crossbar_entries x) ≡ r → inside (crossbar_module x) request held l ≡ to_link r
unfolding inside crossbar_module
inside_goes x request held l r inner goes = rw (inner, goes) refl

-- and where it is one
inside_leaves : (x : Crossbar) (request : Bits) (held : List (List ℕ)) (l : Link) → is_output_net x l.request ≡ true → inside (crossbar_module x) request held l ≡ leaves
unfolding inside crossbar_module
inside_leaves x request held l output = rw output refl

-- ---- names of hosts

-- of two hosts' links with one start
other_named : (x : Crossbar) → NamesDiffer x → (start : List ℕ) (h g : ℕ) → Among h (hosts x.desc) → Among g (hosts x.desc) → (g ≡ h → ⊥)
    → start ++ (label x.desc h ++ codes "_req") ≡ start ++ (label x.desc g ++ codes "_req") → ⊥
other_named x n start h g i j other e = other (same_host x n g h j i (sym (append_cancel_left start (label x.desc h ++ codes "_req") (label x.desc g ++ codes "_req") e)))

-- the request at a host's socket is not another's
h_no_socket : (x : Crossbar) → NamesDiffer x → (h g : ℕ) → Among h (hosts x.desc) → Among g (hosts x.desc) → (g ≡ h → ⊥) → (h_link x.desc h).request ≡ (socket_link x.desc g).request → ⊥
unfolding socket_link
h_no_socket x n h g i j other = by (has_fifo x.desc g) where
  by : (b : Bool) → (h_link x.desc h).request ≡ (cond b (f_link x.desc g) (h_link x.desc g)).request → ⊥
  by true = clash (h_link x.desc h).request (f_link x.desc g).request refl
  by false = other_named x n (codes "h_") h g i j other

-- the request at a host's socket is at no other host's port
socket_no_h : (x : Crossbar) → NamesDiffer x → (h g : ℕ) → Among h (hosts x.desc) → Among g (hosts x.desc) → (g ≡ h → ⊥) → (socket_link x.desc h).request ≡ (h_link x.desc g).request → ⊥
unfolding socket_link
socket_no_h x n h g i j other = by (has_fifo x.desc h) where
  by : (b : Bool) → (cond b (f_link x.desc h) (h_link x.desc h)).request ≡ (h_link x.desc g).request → ⊥
  by true = clash (f_link x.desc h).request (h_link x.desc g).request refl
  by false = other_named x n (codes "h_") h g i j other

-- nor at another host's socket
socket_no_socket : (x : Crossbar) → NamesDiffer x → (h g : ℕ) → Among h (hosts x.desc) → Among g (hosts x.desc) → (g ≡ h → ⊥) → (socket_link x.desc h).request ≡ (socket_link x.desc g).request → ⊥
unfolding socket_link
socket_no_socket x n h g i j other = by (has_fifo x.desc h) (has_fifo x.desc g) where
  by : (b c : Bool) → (cond b (f_link x.desc h) (h_link x.desc h)).request ≡ (cond c (f_link x.desc g) (h_link x.desc g)).request → ⊥
  by true true = other_named x n (codes "f_") h g i j other
  by true false = clash (f_link x.desc h).request (h_link x.desc g).request refl
  by false true = clash (h_link x.desc h).request (f_link x.desc g).request refl
  by false false = other_named x n (codes "h_") h g i j other

-- ---- the steps

-- over the host's FIFO
pub over_host_fifo : (x : Crossbar) → NamesDiffer x → (h : ℕ) (request : Bits) (held : List (List ℕ)) → Among h (hosts x.desc) → has_fifo x.desc h ≡ true
    → inside (crossbar_module x) request held (h_link x.desc h) ≡ to (f_link x.desc h)
over_host_fifo x n h request held i fifo =
    inside_goes x request held (h_link x.desc h) (Some (f_link x.desc h)) (h_no_output x n h i)
    (through_host x k (h_link x.desc h) h (Some (f_link x.desc h)) i others here) where
      k : Known
      k = known x request held

      others : (g : ℕ) → Among g (hosts x.desc) → (g ≡ h → ⊥) → Skips (all_nets x) k (h_link x.desc h) (host_parts x.desc g)
      others g j other =
          skips_join (all_nets x) k (h_link x.desc h) (entries_if (has_fifo x.desc g) (host_fifo_entry x.desc g ∷ [])) (host_split_entry x.desc g ∷ [])
          (skips_if (all_nets x) k (h_link x.desc h) (has_fifo x.desc g) (host_fifo_entry x.desc g ∷ []) (λ e. fifo_skips (all_nets x) k (h_link x.desc h) (codes "u_hf_" ++ label x.desc g) (node x.desc g).clock x.desc.clock (h_link x.desc g) (f_link x.desc g) (other_named x n (codes "h_") h g i j other)))
          (split_skips (all_nets x) k (h_link x.desc h) (codes "u_s_" ++ label x.desc g) x.desc.clock (sel x.desc g) (socket_link x.desc g) (map (lane x.desc g) (reach x.desc g)) (h_no_socket x n h g i j other))

      here : (rest : List Entry) → through (all_nets x) k (h_link x.desc h) (host_parts x.desc h ++ rest) ≡ Some (f_link x.desc h)
      here rest = rw fifo (fifo_goes (all_nets x) k (codes "u_hf_" ++ label x.desc h) (node x.desc h).clock x.desc.clock (h_link x.desc h) (f_link x.desc h) (h_declared x h i) (f_declared x h i fifo) (host_split_entry x.desc h ∷ rest))

-- a select names a place among the devices, or that behind them
up_to_end : (x : Crossbar) (a j : ℕ) (ds : List ℕ) → first_with x a j ds ≤ j + length ds
up_to_end x a j [] = omega arith
up_to_end x a j (d ∷ ds) = by (up_to_end x a (suc j) ds) (some_holds a (device_ranges x d)) where
  by : first_with x a (suc j) ds ≤ suc j + length ds → (b : Bool) → cond b j (first_with x a (suc j) ds) ≤ j + suc (length ds)
  by h true = omega arith
  by h false = omega (arith, h)

-- that has 8 bits
few_first : (x : Crossbar) (a : ℕ) (ds : List ℕ) → length ds ≤ 64 → first_with x a 0 ds < 2 ^ 8
few_first x a ds few = omega (arith, up_to_end x a 0 ds, few)

-- the request at a host's socket is no output
socket_no_output : (x : Crossbar) → NamesDiffer x → (h : ℕ) → Among h (hosts x.desc) → (b : Bool) → has_fifo x.desc h ≡ b → is_output_net x (socket_link x.desc h).request ≡ false
unfolding socket_link
socket_no_output x n h i true e = rw e (f_no_output x n h i e)
socket_no_output x n h i false e = rw e (h_no_output x n h i)

-- a host's FIFO does not take the request behind it
own_fifo : (x : Crossbar) (h : ℕ) → has_fifo x.desc h ≡ true → (socket_link x.desc h).request ≡ (h_link x.desc h).request → ⊥
unfolding socket_link
own_fifo x h e = rw e (clash (f_link x.desc h).request (h_link x.desc h).request refl)

-- over the host's socket, to the output that the address names
pub over_split : (x : Crossbar) → IsCrossbar x → NamesDiffer x → (h : ℕ) (request : Bits) (held : List (List ℕ)) → Among h (hosts x.desc) → length request ≡ 70 → is_among held (socket_link x.desc h).request ≡ true
    → inside (crossbar_module x) request held (socket_link x.desc h) ≡ to_link (slice_get (map (lane x.desc h) (reach x.desc h)) (first_with x (number (address_bits request)) 0 (reach x.desc h)))
over_split x c n h request held i long way =
    inside_goes x request held (socket_link x.desc h) (slice_get lanes (first_with x (number (address_bits request)) 0 (reach x.desc h))) (socket_no_output x n h i (has_fifo x.desc h) refl)
    (through_host x k (socket_link x.desc h) h (slice_get lanes (first_with x (number (address_bits request)) 0 (reach x.desc h))) i others here) where
      k : Known
      k = known x request held

      lanes : List Link
      lanes = map (lane x.desc h) (reach x.desc h)

      others : (g : ℕ) → Among g (hosts x.desc) → (g ≡ h → ⊥) → Skips (all_nets x) k (socket_link x.desc h) (host_parts x.desc g)
      others g j other =
          skips_join (all_nets x) k (socket_link x.desc h) (entries_if (has_fifo x.desc g) (host_fifo_entry x.desc g ∷ [])) (host_split_entry x.desc g ∷ [])
          (skips_if (all_nets x) k (socket_link x.desc h) (has_fifo x.desc g) (host_fifo_entry x.desc g ∷ []) (λ e. fifo_skips (all_nets x) k (socket_link x.desc h) (codes "u_hf_" ++ label x.desc g) (node x.desc g).clock x.desc.clock (h_link x.desc g) (f_link x.desc g) (socket_no_h x n h g i j other)))
          (split_skips (all_nets x) k (socket_link x.desc h) (codes "u_s_" ++ label x.desc g) x.desc.clock (sel x.desc g) (socket_link x.desc g) (map (lane x.desc g) (reach x.desc g)) (socket_no_socket x n h g i j other))

      index : number (bits 8 (first_with x (number (address_bits request)) 0 (reach x.desc h))) ≡ first_with x (number (address_bits request)) 0 (reach x.desc h)
      index = number-bits 8 (first_with x (number (address_bits request)) 0 (reach x.desc h)) (few_first x (number (address_bits request)) (reach x.desc h) (short x c h i))

      tells : selected k (Some (net (sel x.desc h))) lanes ≡ slice_get lanes (first_with x (number (address_bits request)) 0 (reach x.desc h))
      tells = let told = select_told x c n h request held i long way in rw (told.known, told.value, index) refl

      here : (rest : List Entry) → through (all_nets x) k (socket_link x.desc h) (host_parts x.desc h ++ rest) ≡ slice_get lanes (first_with x (number (address_bits request)) 0 (reach x.desc h))
      here rest =
          ap (through (all_nets x) k (socket_link x.desc h)) (append_assoc (entries_if (has_fifo x.desc h) (host_fifo_entry x.desc h ∷ [])) (host_split_entry x.desc h ∷ []) rest)
          ∙ skips_if (all_nets x) k (socket_link x.desc h) (has_fifo x.desc h) (host_fifo_entry x.desc h ∷ []) (λ e. fifo_skips (all_nets x) k (socket_link x.desc h) (codes "u_hf_" ++ label x.desc h) (node x.desc h).clock x.desc.clock (h_link x.desc h) (f_link x.desc h) (own_fifo x h e)) (host_split_entry x.desc h ∷ rest)
          ∙ split_goes (all_nets x) k (codes "u_s_" ++ label x.desc h) x.desc.clock (sel x.desc h) (socket_link x.desc h) lanes (socket_declared x h i) (links_declared (all_nets x) (lane x.desc h) (reach x.desc h) (λ d j. lane_declared x c h d i j)) rest
          ∙ tells

-- hosts' parts take no request of another start
hosts_skip : (x : Crossbar) (k : Known) (l : Link) → ((g : ℕ) → l.request ≡ (h_link x.desc g).request → ⊥) → ((g : ℕ) → l.request ≡ (f_link x.desc g).request → ⊥) → (g : ℕ) → Skips (all_nets x) k l (host_parts x.desc g)
unfolding socket_link
hosts_skip x k l no_h no_f g =
    skips_join (all_nets x) k l (entries_if (has_fifo x.desc g) (host_fifo_entry x.desc g ∷ [])) (host_split_entry x.desc g ∷ [])
    (skips_if (all_nets x) k l (has_fifo x.desc g) (host_fifo_entry x.desc g ∷ []) (λ e. fifo_skips (all_nets x) k l (codes "u_hf_" ++ label x.desc g) (node x.desc g).clock x.desc.clock (h_link x.desc g) (f_link x.desc g) (no_h g)))
    (split_skips (all_nets x) k l (codes "u_s_" ++ label x.desc g) x.desc.clock (sel x.desc g) (socket_link x.desc g) (map (lane x.desc g) (reach x.desc g)) (by (has_fifo x.desc g))) where
      by : (b : Bool) → l.request ≡ (cond b (f_link x.desc g) (h_link x.desc g)).request → ⊥
      by true = no_f g
      by false = no_h g

-- a link among those of numbers
link_of_number : (f : ℕ → Link) (is : List ℕ) (i : ℕ) → Among i is → Among (f i) (map f is)
link_of_number f [] i h = absurd h
link_of_number f (j ∷ js) i (inl e) = inl (ap f e)
link_of_number f (j ∷ js) i (inr h) = inr (link_of_number f js i h)

-- a request among those of numbers is that of one
request_of_number : (f : ℕ → Link) (is : List ℕ) (n : List ℕ) → Among n (requests (map f is)) → (i : ℕ) × Among i is × (n ≡ (f i).request)
request_of_number f [] n a = absurd a
request_of_number f (j ∷ js) n (inl e) = (j, inl refl, e)
request_of_number f (j ∷ js) n (inr a) = let r = request_of_number f js n a in (r.0, inr r.1, r.2)

-- over the M-to-1 socket
pub over_join : (x : Crossbar) → IsCrossbar x → NamesDiffer x → (h d : ℕ) (request : Bits) (held : List (List ℕ)) → Among h (hosts x.desc) → Among d (reach x.desc h) → is_joined x.desc d ≡ true
    → inside (crossbar_module x) request held (l_link x.desc h d) ≡ to (joined_link x.desc d)
over_join x c n h d request held i j joined =
    inside_goes x request held (l_link x.desc h d) (Some (joined_link x.desc d)) (l_no_output x n h d i j joined)
    (through_device x k (l_link x.desc h d) d (Some (joined_link x.desc d)) (c.reaches h d i j)
    (λ g m. hosts_skip x k (l_link x.desc h d) (λ g. clash (l_link x.desc h d).request (h_link x.desc g).request refl) (λ g. clash (l_link x.desc h d).request (f_link x.desc g).request refl) g) others here) where
      k : Known
      k = known x request held

      not_theirs : (e : ℕ) → (e ≡ d → ⊥) → is_joined x.desc e ≡ true → Among (l_link x.desc h d).request (requests (join_lanes x.desc e)) → ⊥
      not_theirs e other t a =
          let r = request_of_number (λ g. l_link x.desc g e) (feeders x.desc e) (l_link x.desc h d).request a in
          let both = feeder_is x.desc r.0 e r.1 in
          other (sym (same_lane x n h d r.0 e i j joined both.0 both.1 t r.2))

      others : (e : ℕ) → Among e (devices x.desc) → (e ≡ d → ⊥) → Skips (all_nets x) k (l_link x.desc h d) (device_parts x.desc e)
      others e m other =
          skips_join (all_nets x) k (l_link x.desc h d) (entries_if (is_joined x.desc e) (device_join_entry x.desc e ∷ [])) (entries_if (has_fifo x.desc e) (device_fifo_entry x.desc e ∷ []))
          (skips_if (all_nets x) k (l_link x.desc h d) (is_joined x.desc e) (device_join_entry x.desc e ∷ []) (λ t. join_skips (all_nets x) k (l_link x.desc h d) (codes "u_m_" ++ label x.desc e) x.desc.clock (join_lanes x.desc e) (joined_link x.desc e) (not_theirs e other t)))
          (skips_if (all_nets x) k (l_link x.desc h d) (has_fifo x.desc e) (device_fifo_entry x.desc e ∷ []) (λ t. fifo_skips (all_nets x) k (l_link x.desc h d) (codes "u_df_" ++ label x.desc e) x.desc.clock (node x.desc e).clock (m_link x.desc e) (d_link x.desc e) (clash (l_link x.desc h d).request (m_link x.desc e).request refl)))

      here : (rest : List Entry) → through (all_nets x) k (l_link x.desc h d) (device_parts x.desc d ++ rest) ≡ Some (joined_link x.desc d)
      here rest = rw joined (join_goes (all_nets x) k (l_link x.desc h d) (codes "u_m_" ++ label x.desc d) x.desc.clock (join_lanes x.desc d) (joined_link x.desc d)
          (link_of_number (λ g. l_link x.desc g d) (feeders x.desc d) h (feeder_has x.desc h d i j)) (join_declared x d joined) (device_declared x d (c.reaches h d i j)) (entries_if (has_fifo x.desc d) (device_fifo_entry x.desc d ∷ []) ++ rest))

-- over the device's FIFO
pub over_device_fifo : (x : Crossbar) → NamesDiffer x → (d : ℕ) (request : Bits) (held : List (List ℕ)) → Among d (devices x.desc) → has_fifo x.desc d ≡ true
    → inside (crossbar_module x) request held (m_link x.desc d) ≡ to (d_link x.desc d)
over_device_fifo x n d request held i fifo =
    inside_goes x request held (m_link x.desc d) (Some (d_link x.desc d)) (m_no_output x n d i fifo)
    (through_device x k (m_link x.desc d) d (Some (d_link x.desc d)) i
    (λ g m. hosts_skip x k (m_link x.desc d) (λ g. clash (m_link x.desc d).request (h_link x.desc g).request refl) (λ g. clash (m_link x.desc d).request (f_link x.desc g).request refl) g) others here) where
      k : Known
      k = known x request held

      no_lane : (e : ℕ) → Among (m_link x.desc d).request (requests (join_lanes x.desc e)) → ⊥
      no_lane e a = let r = request_of_number (λ g. l_link x.desc g e) (feeders x.desc e) (m_link x.desc d).request a in clash (m_link x.desc d).request (l_link x.desc r.0 e).request refl r.2

      joins_skip : (e : ℕ) → Skips (all_nets x) k (m_link x.desc d) (entries_if (is_joined x.desc e) (device_join_entry x.desc e ∷ []))
      joins_skip e = skips_if (all_nets x) k (m_link x.desc d) (is_joined x.desc e) (device_join_entry x.desc e ∷ []) (λ t. join_skips (all_nets x) k (m_link x.desc d) (codes "u_m_" ++ label x.desc e) x.desc.clock (join_lanes x.desc e) (joined_link x.desc e) (no_lane e))

      other_device : (e : ℕ) → Among e (devices x.desc) → (e ≡ d → ⊥) → (m_link x.desc d).request ≡ (m_link x.desc e).request → ⊥
      other_device e m other same = other (same_device x n e d m i (sym (append_cancel_left (codes "m_") (label x.desc d ++ codes "_req") (label x.desc e ++ codes "_req") same)))

      others : (e : ℕ) → Among e (devices x.desc) → (e ≡ d → ⊥) → Skips (all_nets x) k (m_link x.desc d) (device_parts x.desc e)
      others e m other =
          skips_join (all_nets x) k (m_link x.desc d) (entries_if (is_joined x.desc e) (device_join_entry x.desc e ∷ [])) (entries_if (has_fifo x.desc e) (device_fifo_entry x.desc e ∷ []))
          (joins_skip e)
          (skips_if (all_nets x) k (m_link x.desc d) (has_fifo x.desc e) (device_fifo_entry x.desc e ∷ []) (λ t. fifo_skips (all_nets x) k (m_link x.desc d) (codes "u_df_" ++ label x.desc e) x.desc.clock (node x.desc e).clock (m_link x.desc e) (d_link x.desc e) (other_device e m other)))

      here : (rest : List Entry) → through (all_nets x) k (m_link x.desc d) (device_parts x.desc d ++ rest) ≡ Some (d_link x.desc d)
      here rest =
          ap (through (all_nets x) k (m_link x.desc d)) (append_assoc (entries_if (is_joined x.desc d) (device_join_entry x.desc d ∷ [])) (entries_if (has_fifo x.desc d) (device_fifo_entry x.desc d ∷ [])) rest)
          ∙ joins_skip d (entries_if (has_fifo x.desc d) (device_fifo_entry x.desc d ∷ []) ++ rest)
          ∙ rw fifo (fifo_goes (all_nets x) k (codes "u_df_" ++ label x.desc d) x.desc.clock (node x.desc d).clock (m_link x.desc d) (d_link x.desc d) (m_declared x d i fifo) (d_declared x d i) rest)

-- out of the crossbar
pub at_device : (x : Crossbar) (d : ℕ) (request : Bits) (held : List (List ℕ)) → Among d (devices x.desc) → inside (crossbar_module x) request held (d_link x.desc d) ≡ leaves
at_device x d request held i = inside_leaves x request held (d_link x.desc d) (d_is_output x d i)
