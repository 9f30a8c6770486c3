-- The instances of a crossbar's module are its parts.
use Rattle.std.proofs.Common.{◌≡◌, ℕ, suc, ◌≤◌, leb, Bool, true, false, not, cond, arith, ◌⊎◌, inl, inr, List, [], ◌∷◌, ◌++◌, map, length, refl, ap, sym, subst, ◌∙◌, Option, Some, None, codes}
use Rattle.std.specs.Prelude.{flat_map}
use Rattle.std.specs.Str.{bytes_eq}
use Rattle.cg_svspec.specs.Links.{Link, spelled}
use Rattle.cg_svspec.specs.Names.{Among}
use Rattle.cg_svspec.specs.Printable.{AllOf}
use Rattle.cg_svspec.specs.Tree.{net, Connection, Entry, wire, drive, assign, inst}
use Rattle.cg_svspec.specs.WellFormed.{split_name, join_name, fifo_name}
use Rattle.cg_svspec.proofs.NamesLemmas.{among_front, among_back, name_is_itself, same_name}
use Rattle.cg_svspec.proofs.Parts.{all_join}
use Rattle.cg_desc.specs.Crossbar.{NodeIs, Connects, IsValidCrossbar}
use Rattle.cg_desc.specs.declared.crossbar.NodeDesc.{NodeDesc}
use Rattle.cg_desc.specs.declared.crossbar.NodeRanges.{NodeRanges}
use Rattle.cg_desc.specs.declared.crossbar.XbarDesc.{XbarDesc}
use Rattle.cg_busspec.specs.Crossbar.{Crossbar, crossbar_of, node, hosts, devices, label, is_in, reach, feeders, is_joined, has_fifo}
use Rattle.cg_busspec.specs.CrossbarMeaning.{HostIs, DeviceIs, ClockAt, IsPart, host_fifo, split_socket, join_socket, device_fifo, HasInstance, PartsStand}
use Rattle.cg_busspec.specs.CrossbarModule.{h_link, f_link, l_link, m_link, d_link, socket_link, joined_link, lane, sel, entries_if, link_wires, host_wires, lane_wires, host_lanes, device_wires, host_select, join_lanes, host_fifo_entry, host_split_entry, device_join_entry, device_fifo_entry, host_parts, device_parts, fifo_instance, split_instance, join_instance, crossbar_wires, crossbar_selects, crossbar_parts, crossbar_entries, crossbar_module}
use Rattle.cg_busspec.proofs.Described.{host_is, host_has, device_is, device_has, connects_is, connects_host, connects_has}
use Rattle.cg_busspec.proofs.Members.{all_flat, all_if, one_of_all, among_if, filter_once, two_of, two_have}
use Rattle.cg_busspec.proofs.Named.{clock_is, label_of}
use Rattle.cg_busspec.proofs.Good.{Once}
use Rattle.cg_busspec.proofs.NumberLists.{among_flat}
use Rattle.cg_busspec.proofs.Places.{feeder_is, feeder_has}
use Rattle.cg_busspec.proofs.Sums.{numbers_once}

-- ---- each instance is a part

-- what is asked of an entry
abbrev Stands : XbarDesc → Entry → Type 0
Stands x (wire w n) = Unit {0}
Stands x (drive w n e) = Unit {0}
Stands x (assign n e) = Unit {0}
Stands x (inst m ps n cs) = IsPart x m n cs

-- a clock that differs
other_clock : (x : XbarDesc) (ranges : List NodeRanges) (i : ℕ) (n : NodeDesc) → NodeIs x i n → has_fifo x i ≡ true → n.clock ≡ x.clock → ⊥
unfolding has_fifo
other_clock x ranges i n e t same =
    let equal : bytes_eq (node x i).clock x.clock ≡ true = rw (clock_is x i n e, same) (name_is_itself x.clock) in cc

-- is one at which a FIFO stands
fifo_where : (x : XbarDesc) (ranges : List NodeRanges) (i : ℕ) (n : NodeDesc) → NodeIs x i n → (n.clock ≡ x.clock → ⊥) → has_fifo x i ≡ true
unfolding has_fifo
fifo_where x ranges i n e other = by (bytes_eq (node x i).clock x.clock) refl where
  by : (b : Bool) → bytes_eq (node x i).clock x.clock ≡ b → not b ≡ true
  by true t = absurd (other (sym (clock_is x i n e) ∙ same_name (node x i).clock x.clock t))
  by false t = refl

-- the clock of a node, at a connection
clock_at : (x : XbarDesc) (ranges : List NodeRanges) (i : ℕ) (n : NodeDesc) → NodeIs x i n → Some (net (codes "c_" ++ (node x i).clock)) ≡ Some (net (codes "c_" ++ n.clock))
clock_at x ranges i n e = ap (λ z. Some (net (codes "c_" ++ z))) (clock_is x i n e)

-- an instance of a node's name
named_part : (x : XbarDesc) (ranges : List NodeRanges) (i : ℕ) (n : NodeDesc) (part start : List ℕ) (cs : List Connection) → NodeIs x i n → IsPart x part (start ++ spelled n.name) cs
    → IsPart x part (start ++ label x i) cs
named_part x ranges i n part start cs e is = subst (λ z. IsPart x part (start ++ z) cs) (sym (label_of x i n e)) is

-- a host's FIFO
host_fifo_stands : (x : XbarDesc) (ranges : List NodeRanges) (h : ℕ) → Among h (hosts x) → has_fifo x h ≡ true → Stands x (host_fifo_entry x h)
unfolding fifo_instance
host_fifo_stands x ranges h i t =
    let is = host_is x h i in
    named_part x ranges h is.0 fifo_name (codes "u_hf_") _ is.1 (host_fifo h is.0 _ (is.1, is.2) (other_clock x ranges h is.0 is.1 t) (clock_at x ranges h is.0 is.1) refl)

-- a host's 1-to-N socket
split_stands : (x : XbarDesc) (ranges : List NodeRanges) (h : ℕ) → Among h (hosts x) → Stands x (host_split_entry x h)
unfolding split_instance
split_stands x ranges h i = let is = host_is x h i in named_part x ranges h is.0 split_name (codes "u_s_") _ is.1 (split_socket h is.0 _ (is.1, is.2) refl)

-- the hosts of a device stand once
feeders_once : (x : XbarDesc) (d : ℕ) → Once (feeders x d)
unfolding feeders hosts
feeders_once x d = filter_once (λ h. is_in (reach x h) d) (hosts x) (numbers_once true 0 x.nodes)

-- two hosts connect to a device with an M-to-1 socket
two_hosts : (x : XbarDesc) (ranges : List NodeRanges) (d : ℕ) → is_joined x d ≡ true → (a : ℕ) × (b : ℕ) × (a ≡ b → ⊥) × Connects x a d × Connects x b d
unfolding is_joined
two_hosts x ranges d t =
    let two = two_of (feeders x d) (feeders_once x d) t in
    let a = feeder_is x two.0 d two.3 in
    let b = feeder_is x two.1 d two.4 in
    (two.0, two.1, two.2, connects_is x two.0 d a.0 a.1, connects_is x two.1 d b.0 b.1)

-- and to no other
joined_where : (x : XbarDesc) (ranges : List NodeRanges) (d a b : ℕ) → (a ≡ b → ⊥) → Connects x a d → Connects x b d → is_joined x d ≡ true
unfolding is_joined
joined_where x ranges d a b other c e =
    two_have (feeders x d) a b other
    (feeder_has x a d (connects_host x a d c) (connects_has x a d c))
    (feeder_has x b d (connects_host x b d e) (connects_has x b d e))

-- a device's M-to-1 socket
join_stands : (x : XbarDesc) (ranges : List NodeRanges) (d : ℕ) → Among d (devices x) → is_joined x d ≡ true → Stands x (device_join_entry x d)
unfolding join_instance
join_stands x ranges d i t =
    let is = device_is x d i in
    let two = two_hosts x ranges d t in
    named_part x ranges d is.0 join_name (codes "u_m_") _ is.1 (join_socket d two.0 two.1 is.0 _ (is.1, is.2) two.2 two.3 two.4 refl)

-- a device's FIFO
device_fifo_stands : (x : XbarDesc) (ranges : List NodeRanges) (d : ℕ) → Among d (devices x) → has_fifo x d ≡ true → Stands x (device_fifo_entry x d)
unfolding fifo_instance
device_fifo_stands x ranges d i t =
    let is = device_is x d i in
    named_part x ranges d is.0 fifo_name (codes "u_df_") _ is.1 (device_fifo d is.0 _ (is.1, is.2) (other_clock x ranges d is.0 is.1 t) refl (clock_at x ranges d is.0 is.1))

-- wires are no instances
wires_stand : (x : XbarDesc) (c : Crossbar) → AllOf (Stands x) (crossbar_wires c.desc)
wires_stand x c =
    all_join (Stands x) (flat_map (host_wires c.desc) (hosts c.desc)) _ (all_flat (Stands x) (host_wires c.desc) (hosts c.desc) (λ h i. all_if (Stands x) (has_fifo c.desc h) (link_wires (f_link c.desc h)) (λ t. (tt, (tt, tt)))))
    (all_join (Stands x) (flat_map (host_lanes c.desc) (hosts c.desc)) (flat_map (device_wires c.desc) (devices c.desc))
    (all_flat (Stands x) (host_lanes c.desc) (hosts c.desc) (λ h i. all_flat (Stands x) (lane_wires c.desc h) (reach c.desc h) (λ d j. all_if (Stands x) (is_joined c.desc d) (link_wires (l_link c.desc h d)) (λ t. (tt, (tt, tt))))))
    (all_flat (Stands x) (device_wires c.desc) (devices c.desc) (λ d i. all_if (Stands x) (has_fifo c.desc d) (link_wires (m_link c.desc d)) (λ t. (tt, (tt, tt))))))

-- selects are none
selects_stand : (x : XbarDesc) (c : Crossbar) (hs : List ℕ) → AllOf (Stands x) (map (host_select c) hs)
selects_stand x c [] = tt
selects_stand x c (h ∷ hs) = (tt, selects_stand x c hs)

-- parts are
parts_stand : (x : XbarDesc) (ranges : List NodeRanges) → AllOf (Stands x) (crossbar_parts x)
parts_stand x ranges =
    let c = crossbar_of x ranges in
    all_join (Stands x) (flat_map (host_parts c.desc) (hosts c.desc)) (flat_map (device_parts c.desc) (devices c.desc))
    (all_flat (Stands x) (host_parts c.desc) (hosts c.desc) (λ h i. all_join (Stands x) (entries_if (has_fifo c.desc h) (host_fifo_entry c.desc h ∷ [])) (host_split_entry c.desc h ∷ [])
    (all_if (Stands x) (has_fifo c.desc h) (host_fifo_entry c.desc h ∷ []) (λ t. (host_fifo_stands x ranges h i t, tt))) (split_stands x ranges h i, tt)))
    (all_flat (Stands x) (device_parts c.desc) (devices c.desc) (λ d i. all_join (Stands x) (entries_if (is_joined c.desc d) (device_join_entry c.desc d ∷ [])) (entries_if (has_fifo c.desc d) (device_fifo_entry c.desc d ∷ []))
    (all_if (Stands x) (is_joined c.desc d) (device_join_entry c.desc d ∷ []) (λ t. (join_stands x ranges d i t, tt))) (all_if (Stands x) (has_fifo c.desc d) (device_fifo_entry c.desc d ∷ []) (λ t. (device_fifo_stands x ranges d i t, tt)))))

-- all entries
entries_stand : (x : XbarDesc) (ranges : List NodeRanges) → AllOf (Stands x) (crossbar_entries (crossbar_of x ranges))
unfolding crossbar_entries
entries_stand x ranges =
    let c = crossbar_of x ranges in
    all_join (Stands x) (crossbar_wires c.desc) (crossbar_selects c ++ crossbar_parts c.desc) (wires_stand x c)
    (all_join (Stands x) (crossbar_selects c) (crossbar_parts c.desc) (selects_stand x c (hosts c.desc)) (parts_stand x ranges))

-- ---- each part is an instance

-- an entry of a host's parts, or of a device's, is one of all
pub host_part_in : (c : Crossbar) (h : ℕ) (e : Entry) → Among h (hosts c.desc) → Among e (host_parts c.desc h) → Among e (crossbar_entries c)
unfolding crossbar_entries
host_part_in c h e i a =
    among_back e (crossbar_wires c.desc) (crossbar_selects c ++ crossbar_parts c.desc) (among_back e (crossbar_selects c) (crossbar_parts c.desc)
    (among_front e (flat_map (host_parts c.desc) (hosts c.desc)) (flat_map (device_parts c.desc) (devices c.desc)) (among_flat (host_parts c.desc) (hosts c.desc) h e i a)))

-- or of a device's
pub device_part_in : (c : Crossbar) (d : ℕ) (e : Entry) → Among d (devices c.desc) → Among e (device_parts c.desc d) → Among e (crossbar_entries c)
unfolding crossbar_entries
device_part_in c d e i a =
    among_back e (crossbar_wires c.desc) (crossbar_selects c ++ crossbar_parts c.desc) (among_back e (crossbar_selects c) (crossbar_parts c.desc)
    (among_back e (flat_map (host_parts c.desc) (hosts c.desc)) (flat_map (device_parts c.desc) (devices c.desc)) (among_flat (device_parts c.desc) (devices c.desc) d e i a)))

-- an instance of a node's name, as it is described
named_instance : (x : XbarDesc) (ranges : List NodeRanges) (i : ℕ) (n : NodeDesc) (part start : List ℕ) → NodeIs x i n
    → HasInstance (crossbar_module (crossbar_of x ranges)) part (start ++ label x i) → HasInstance (crossbar_module (crossbar_of x ranges)) part (start ++ spelled n.name)
named_instance x ranges i n part start e has = subst (λ z. HasInstance (crossbar_module (crossbar_of x ranges)) part (start ++ z)) (label_of x i n e) has

-- The parts of a described crossbar stand in its module.
pub described_parts : (x : XbarDesc) (ranges : List NodeRanges) → PartsStand (crossbar_module (crossbar_of x ranges)) x
unfolding crossbar_module fifo_instance split_instance join_instance
described_parts x ranges =
    let c = crossbar_of x ranges in
    record {
      each_is = λ part name ps cs a. one_of_all (Stands x) (crossbar_entries c) (inst part ps name cs) (entries_stand x ranges) a;
      host_fifos = λ h host is other. named_instance x ranges h host fifo_name (codes "u_hf_") is.0 (
        _,
        _,
        host_part_in c h (host_fifo_entry c.desc h) (host_has x h host is.0 is.1)
            (among_front (host_fifo_entry c.desc h) (entries_if (has_fifo c.desc h) (host_fifo_entry c.desc h ∷ [])) (host_split_entry c.desc h ∷ []) (among_if (has_fifo c.desc h) (host_fifo_entry c.desc h) (fifo_where x ranges h host is.0 other))),
      );
      split_sockets = λ h host is. named_instance x ranges h host split_name (codes "u_s_") is.0 (
        _,
        _,
        host_part_in c h (host_split_entry c.desc h) (host_has x h host is.0 is.1)
            (among_back (host_split_entry c.desc h) (entries_if (has_fifo c.desc h) (host_fifo_entry c.desc h ∷ [])) (host_split_entry c.desc h ∷ []) (inl refl)),
      );
      join_sockets = λ d a b device is other p q. named_instance x ranges d device join_name (codes "u_m_") is.0 (
        _,
        _,
        device_part_in c d (device_join_entry c.desc d) (device_has x d (device, is.0, is.1))
            (among_front (device_join_entry c.desc d) (entries_if (is_joined c.desc d) (device_join_entry c.desc d ∷ [])) (entries_if (has_fifo c.desc d) (device_fifo_entry c.desc d ∷ []))
            (among_if (is_joined c.desc d) (device_join_entry c.desc d) (joined_where x ranges d a b other p q))),
      );
      device_fifos = λ d device is other. named_instance x ranges d device fifo_name (codes "u_df_") is.0 (
        _,
        _,
        device_part_in c d (device_fifo_entry c.desc d) (device_has x d (device, is.0, is.1))
            (among_back (device_fifo_entry c.desc d) (entries_if (is_joined c.desc d) (device_join_entry c.desc d ∷ [])) (entries_if (has_fifo c.desc d) (device_fifo_entry c.desc d ∷ []))
            (among_if (has_fifo c.desc d) (device_fifo_entry c.desc d) (fifo_where x ranges d device is.0 other))),
      );
    }
