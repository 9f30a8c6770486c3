-- In every valuation a select has the number of the first of the host's devices that has the request's address.
use Rattle.std.proofs.Common.{◌≡◌, ℕ, zero, suc, ◌+◌, ◌≤◌, ◌<◌, Bool, true, false, cond, arith, inl, List, [], ◌∷◌, ◌++◌, length, refl, ap, sym, subst, ◌∙◌, Option, Some, None, codes}
use Rattle.std.specs.Prelude.{slice_get}
use Rattle.cg_svspec.specs.Bits.{Bits, bits}
use Rattle.cg_svspec.specs.Links.{spelled}
use Rattle.cg_svspec.specs.Names.{Among, Differ, port_names, entry_names, module_names}
use Rattle.cg_svspec.specs.Tree.{net, Expression, Parameter, Connection, inst}
use Rattle.cg_svspec.specs.Value.{Values, Valuation, eval, connection_at}
use Rattle.cg_svspec.specs.WellFormed.{split_name}
use Rattle.cg_svspec.proofs.NamesLemmas.{among_front, among_back, differ_back}
use Rattle.cg_desc.specs.Crossbar.{NodeIs, Connects, IsValidCrossbar}
use Rattle.cg_desc.specs.declared.crossbar.NodeDesc.{NodeDesc}
use Rattle.cg_desc.specs.declared.crossbar.NodeRanges.{NodeRanges}
use Rattle.cg_desc.specs.declared.crossbar.XbarDesc.{XbarDesc}
use Rattle.cg_busspec.specs.Crossbar.{device_ranges, Crossbar, crossbar_of, node, hosts, label, reach, some_holds, has_fifo}
use Rattle.cg_busspec.specs.CrossbarMeaning.{HostIs, IsFirstWith, Selects}
use Rattle.cg_busspec.specs.CrossbarModule.{socket_link, sel, lane, select, host_select, split_instance, host_fifo_entry, host_split_entry, entries_if, crossbar_wires, crossbar_selects, crossbar_parts, crossbar_ports, crossbar_entries, crossbar_module}
use Rattle.cg_busspec.specs.Ranges.{HasAddress, AreRangesOf, address_of}
use Rattle.cg_busspec.proofs.Accepted.{is_crossbar}
use Rattle.cg_busspec.proofs.Described.{among_at, host_has, reach_is, has_address, address_has}
use Rattle.cg_busspec.proofs.Members.{among_map, holds_at, same_instance}
use Rattle.cg_busspec.proofs.Named.{label_of}
use Rattle.cg_busspec.proofs.Selects.{first_with, select_is}
use Rattle.cg_busspec.proofs.Standing.{host_part_in}

-- ---- the first device with an address

-- The number that is found is that of a place, counted from j: the first whose device has the address, or that behind all.
record FirstPlace (c : Crossbar) (a j : ℕ) (ds : List ℕ) : Type 0 where
  place : ℕ
  is : first_with c a j ds ≡ j + place
  within : place ≤ length ds
  has : (d : ℕ) → slice_get ds place ≡ Some d → some_holds a (device_ranges c d) ≡ true
  none_before : (i d : ℕ) → i < place → slice_get ds i ≡ Some d → some_holds a (device_ranges c d) ≡ false

-- there is such a place
first_place : (c : Crossbar) (a j : ℕ) (ds : List ℕ) → FirstPlace c a j ds
first_place c a j [] = record { place = 0; is = omega arith; within = omega arith; has = λ d e. cc; none_before = λ i d low e. absurd (omega (arith, low)) }
first_place c a j (d ∷ ds) = by (some_holds a (device_ranges c d)) refl (first_place c a (suc j) ds) where
  by : (b : Bool) → some_holds a (device_ranges c d) ≡ b → FirstPlace c a (suc j) ds → FirstPlace c a j (d ∷ ds)
  by true t later = record {
    place = 0;
    is = rw t (omega arith);
    within = omega arith;
    has = λ e s. let same : d ≡ e = cc in subst (λ z. some_holds a (device_ranges c z) ≡ true) same t;
    none_before = λ i e low s. absurd (omega (arith, low));
  }
  by false t later = record {
    place = suc later.place;
    is = rw t (omega (arith, later.is));
    within = omega (arith, later.within);
    has = λ e s. later.has e s;
    none_before = λ i e low s. before i e low s;
  } where
    before : (i e : ℕ) → i < suc later.place → slice_get (d ∷ ds) i ≡ Some e → some_holds a (device_ranges c e) ≡ false
    before zero e low s = let same : d ≡ e = cc in subst (λ z. some_holds a (device_ranges c z) ≡ false) same t
    before (suc i) e low s = later.none_before i e (omega (arith, low)) s

-- as it is described
first_is : (x : XbarDesc) (ranges : List NodeRanges) → IsValidCrossbar x → AreRangesOf x ranges → (h : ℕ) (host : NodeDesc) → HostIs x h host → (a : ℕ)
    → IsFirstWith ranges host.to a (first_with (crossbar_of x ranges) a 0 host.to)
first_is x ranges valid are h host is a =
    let c = crossbar_of x ranges in
    let first = first_place c a 0 host.to in
    let place_is : first.place ≡ first_with c a 0 host.to = omega (arith, first.is) in
    subst (IsFirstWith ranges host.to a) place_is (record {
      within = first.within;
      has = λ d e. has_address x ranges d a are.count (valid.devices_only h d (connected d first.place e)) (first.has d e);
      none_before = λ i d low e h. let t : some_holds a (device_ranges c d) ≡ true = address_has x ranges d a (valid.devices_only _ d (connected d i e)) h in let f = first.none_before i d low e in cc;
    }) where
      connected : (d i : ℕ) → slice_get host.to i ≡ Some d → Connects x h d
      connected d i e = (host, is.0, is.1, among_at host.to i d e)

-- ---- the host's socket and select

-- the select's own entry
select_in : (c : Crossbar) (h : ℕ) → Among h (hosts c.desc) → Among (host_select c h) (crossbar_entries c)
unfolding crossbar_entries
select_in c h i =
    among_back (host_select c h) (crossbar_wires c.desc) (crossbar_selects c ++ crossbar_parts c.desc)
    (among_front (host_select c h) (crossbar_selects c) (crossbar_parts c.desc) (among_map (host_select c) (hosts c.desc) h i))

-- it has the value of its expression
select_value : (c : Crossbar) (h : ℕ) (inputs given v next : Values) → Among h (hosts c.desc) → Valuation (crossbar_module c) inputs given v next
    → v (sel c.desc h) ≡ eval v (select c (socket_link c.desc h).request 0 (reach c.desc h))
unfolding crossbar_module
select_value c h inputs given v next i valuation = holds_at v given next (crossbar_entries c) (host_select c h) valuation.entries_hold (select_in c h i)

-- the socket's own entry
socket_in : (c : Crossbar) (h : ℕ) → Among h (hosts c.desc) → Among (host_split_entry c.desc h) (crossbar_entries c)
socket_in c h i =
    host_part_in c h (host_split_entry c.desc h) i
    (among_back (host_split_entry c.desc h) (entries_if (has_fifo c.desc h) (host_fifo_entry c.desc h ∷ [])) (host_split_entry c.desc h ∷ []) (inl refl))

-- entries of different names
entries_differ : (c : Crossbar) → Differ (module_names (crossbar_module c)) → Differ (entry_names (crossbar_entries c))
unfolding crossbar_module
entries_differ c d = differ_back (port_names (crossbar_ports c.desc)) (entry_names (crossbar_entries c)) d

-- the nets at the socket of a host
record AtSocket (c : Crossbar) (h : ℕ) (s q : List ℕ) : Type 0 where
  select_is : s ≡ sel c.desc h
  request_is : q ≡ (socket_link c.desc h).request

-- are those of its own entry
at_socket : (c : Crossbar) → Differ (module_names (crossbar_module c)) → (h : ℕ) (ps : List Parameter) (name : List ℕ) (cs : List Connection) (s q : List ℕ) → Among h (hosts c.desc)
    → codes "u_s_" ++ label c.desc h ≡ name → Among (inst split_name ps name cs) (crossbar_entries c)
    → connection_at (codes "sel_i") cs ≡ Some (net s) → connection_at (codes "req_i") cs ≡ Some (net q) → AtSocket c h s q
unfolding split_instance
at_socket c d h ps name cs s q i named a is_select is_request =
    let here : Among (inst split_name ps (codes "u_s_" ++ label c.desc h) cs) (crossbar_entries c) = subst (λ z. Among (inst split_name ps z cs) (crossbar_entries c)) (sym named) a in
    let same = same_instance (codes "u_s_" ++ label c.desc h) split_name split_name ps _ cs _ (crossbar_entries c) (entries_differ c d) here (socket_in c h i) in
    let one : Some (net s) ≡ Some (net (sel c.desc h)) = sym is_select ∙ ap (connection_at (codes "sel_i")) same in
    let two : Some (net q) ≡ Some (net (socket_link c.desc h).request) = sym is_request ∙ ap (connection_at (codes "req_i")) same in
    record { select_is = cc; request_is = cc }

-- The selects of a described crossbar's module.
pub described_selects : (x : XbarDesc) (ranges : List NodeRanges) → IsValidCrossbar x → AreRangesOf x ranges → Differ (module_names (crossbar_module (crossbar_of x ranges)))
    → Selects (crossbar_module (crossbar_of x ranges)) x ranges
unfolding crossbar_module
described_selects x ranges valid are differ h host ps cs s q inputs given v next is a is_select is_request valuation long =
    let c = crossbar_of x ranges in
    let good = is_crossbar x ranges valid are in
    let i = host_has x h host is.0 is.1 in
    let nets = at_socket c differ h ps (codes "u_s_" ++ spelled host.name) cs s q i (ap (λ z. codes "u_s_" ++ z) (label_of x h host is.0)) a is_select is_request in
    let value = select_value c h inputs given v next i valuation in
    let told = select_is v c (socket_link c.desc h).request (v q) (ap v (sym nets.request_is)) long 0 (reach c.desc h) (λ d m. good.ranges d (good.reaches h d i m)) in
    let devices : reach c.desc h ≡ host.to = reach_is x h host is.0 in (
      first_with c (address_of (v q)) 0 host.to,
      first_is x ranges valid are h host is (address_of (v q)),
      ap v nets.select_is ∙ (value ∙ (told ∙ ap (λ z. bits 8 (first_with c (address_of (v q)) 0 z)) devices)),
    )
