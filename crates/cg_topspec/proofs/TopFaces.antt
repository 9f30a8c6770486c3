-- Where the way ends: at a device interface of an instance, or at a port.
use Rattle.std.proofs.Common.{Bool, List, None, Option, Some, [], ap, append_assoc, arith, codes, cond, false, inl, inr, leb, length, length-append, map, pow-suc, refl, slice_get, subst, suc, sym, true, zero, ℕ, ◌*◌, ◌++◌, ◌+◌, ◌-◌, ◌/◌, ◌<◌, ◌^◌, ◌∙◌, ◌∷◌, ◌≡◌, ◌≤◌}
use Rattle.std.proofs.Math.Nat.{div-eq_of_eq-mul_right}
use Rattle.std.proofs.Math.Seq.{take-append_seam}
use Rattle.std.proofs.lemmas.Bool.Decides.{nat_tests}
use Rattle.std.proofs.lemmas.List.{length-map}
use Rattle.std.proofs.lemmas.Nat.{pow_pos}
use Rattle.std.specs.Str.{bytes_eq}
use Rattle.cg_busspec.specs.CrossbarModule.{connection, halvings}
use Rattle.cg_desc.specs.Reach.{IsPlain}
use Rattle.cg_desc.specs.declared.block.LaidFace.{LaidFace}
use Rattle.cg_desc.specs.declared.top.NodeEnd.{NodeEnd}
use Rattle.cg_desc.specs.declared.top.NodeEnd.TheVariants.{Face, Host, Outside, Xbar}
use Rattle.cg_svspec.proofs.NamesLemmas.{name_is_itself, same_name, test_of_among}
use Rattle.cg_svspec.specs.Bits.{Bits}
use Rattle.cg_svspec.specs.Links.{answer_to, goes_out, has_port, port_number}
use Rattle.cg_svspec.specs.Names.{Among, Differ, is_among}
use Rattle.cg_svspec.specs.Register.{input_port, output_port}
use Rattle.cg_svspec.specs.Tree.{Module, Parameter, lit, net}
use Rattle.cg_svspec.specs.Value.{connection_at, parameter_at}
use Rattle.cg_svspec.specs.Walk.{End, IsFace, Position, Way, address_width_name, arrival, arrive_at, between, connection_number, counts_at, ended, interface_of, is_bare, is_some_module, meets, met, module_named, next, outside, position, reached, response_name}
use Rattle.cg_svspec.specs.WellFormed.{ends_with, outputs_of}
use Rattle.cg_topspec.proofs.Arrivals.{Skips, bare_is, bare_itself, connection_found, counting_length, one_number, output_there, port_there, skip_all}
use Rattle.cg_topspec.proofs.Built.{Built, HasCrossbars, HasFace, HasRegister, HasRegisters, IsDevice, IsJoined, NamesApart, crossbar_entry, instance_connections, instance_entry, parameter_names, top_module, top_nets, top_ports}
use Rattle.cg_topspec.proofs.ListLemmas.{from_counting, from_map, in_back, in_front}
use Rattle.cg_topspec.proofs.Nets.{answer_of_request, request_is, response_is}
use Rattle.cg_topspec.proofs.Texts.{ends_itself, other_name}
use Rattle.cg_topspec.proofs.TopConnections.{block_request}
use Rattle.cg_topspec.proofs.TopLinks.{arrive_block, arrives_by, found_entry, is_no_output, next_between, numbered_split, pair_same, skips_block, skips_nets, some_same}
use Rattle.cg_topspec.proofs.TopNets.{instance_number, instance_there, node_port_there}
use Rattle.cg_topspec.proofs.Whole.{entries_of_top, names_of_top, ports_of_top}
use Rattle.cg_topspec.specs.Nets.{link_base, own_link}
use Rattle.cg_topspec.specs.Top.{NodeId, block_of, counting, device_node, end_of, instance_of}
use Rattle.cg_topspec.specs.TopModule.{address_width, face_connections, face_request, instance_ties, joined_at, node_ports}
use Rattle.cg_svspec.specs.Walk as walk

-- ---- names of an interface's connections

pub interface_is : (f : Option (List ℕ)) → interface_of (face_request f) ≡ Some f
interface_is None = refl
interface_is (Some f) =
    let longer : length (f ++ codes "_tl_req_i") ≡ length f + 9 = length-append f (codes "_tl_req_i") in
    let other : bytes_eq (f ++ codes "_tl_req_i") (codes "tl_req_i") ≡ false =
    other_name (f ++ codes "_tl_req_i") (codes "tl_req_i") (λ e. let same : length (f ++ codes "_tl_req_i") ≡ 8 = ap length e in omega (arith, longer, same)) in
    let size : length (f ++ codes "_tl_req_i") - 9 ≡ length f = omega (arith, longer) in
    rw (other, ends_itself f (codes "_tl_req_i"), size, take-append_seam f (codes "_tl_req_i")) refl

-- where no name stands twice, a parameter is found by its name
parameter_in : (p : Parameter) (ps : List Parameter) → Among p ps → Among p.name (parameter_names ps)
parameter_in p [] a = absurd a
parameter_in p (x ∷ ps) (inl e) = inl (ap (λ (z : Parameter). z.name) e)
parameter_in p (x ∷ ps) (inr a) = inr (parameter_in p ps a)

pub parameter_found : (ps : List Parameter) → Differ (parameter_names ps) → (p : Parameter) → Among p ps → parameter_at p.name ps ≡ Some p.value
parameter_found [] d p a = absurd a
parameter_found (x ∷ ps) d p (inl e) = rw (e, name_is_itself x.name) refl
parameter_found (x ∷ ps) d p (inr a) = by (bytes_eq x.name p.name) refl (parameter_found ps d.1 p a) where
  by : (b : Bool) → bytes_eq x.name p.name ≡ b → parameter_at p.name ps ≡ Some p.value → cond b (Some x.value) (parameter_at p.name ps) ≡ Some p.value
  by true is later = absurd (d.0 (subst (λ n. Among n (parameter_names ps)) (sym (same_name x.name p.name is)) (parameter_in p ps a)))
  by false is later = later

pub width_in : (faces : List LaidFace) (f : ℕ) (face : LaidFace) → slice_get faces f ≡ Some face → Among (address_width face) (map address_width faces)
width_in [] f face e = cc
width_in (x ∷ faces) zero face e = inl (ap address_width (sym (some_same _ _ e)))
width_in (x ∷ faces) (suc f) face e = inr (width_in faces f face e)

-- the logarithm of a power of two
pub log_is : (fuel k : ℕ) → k ≤ fuel → halvings fuel (2 ^ k) ≡ k
log_is zero zero h = refl
log_is zero (suc k) h = absurd (omega (arith, h))
log_is (suc fuel) zero h = refl
log_is (suc fuel) (suc k) h =
    let p : 2 ^ suc k ≡ 2 * 2 ^ k = omega (arith, pow-suc 2 k) in
    let some : 0 < 2 ^ k = pow_pos k in
    let more : leb (2 ^ suc k) 1 ≡ false = grind (arith, nat_tests) in
    let half : 2 ^ suc k / 2 ≡ 2 ^ k = div-eq_of_eq-mul_right (omega arith) p in
    rw (more, half) (ap suc (log_is fuel k (omega (arith, h))))

-- the interface that is met is one
unfoldable pub is_face : (top : Built) (ms : List Module) (i f : ℕ) (h : HasFace top.merged i f) → HasRegister top ms i f h
    → IsFace (top_module top ∷ ms) (record { part = (block_of top.merged i).desc.name; parameters = map address_width (block_of top.merged i).faces; connections = instance_connections top i; interface = h.face.name })
is_face top ms i f h r = record {
  registers = r.registers;
  found = r.named;
  is_register = r.means.is_register;
  width = r.bits;
  width_is =
      parameter_found (map address_width (block_of top.merged i).faces) r.parameters_differ (address_width h.face) (width_in (block_of top.merged i).faces f h.face h.face_is)
      ∙ ap (λ k. Some (lit 0 k)) (ap (halvings 32) r.size_is ∙ log_is 32 r.bits r.few);
  some = r.some;
  few = r.few;
}

-- ---- the interface's connections are there

face_in : (top : Built) (i s : ℕ) (faces : List LaidFace) (f : ℕ) (face : LaidFace) (n : NodeId) → slice_get faces f ≡ Some face → device_node top.merged i (s + f) ≡ Some n
    → Among (connection (face_request face.name) (net (own_link top.merged n).request)) (face_connections top.merged i s faces)
    × Among (connection (response_name face.name) (net (own_link top.merged n).response)) (face_connections top.merged i s faces)
face_in top i s [] f face n e o = cc
face_in top i s (x ∷ faces) zero face n e o =
    let same : x ≡ face = some_same _ _ e in
    let here : device_node top.merged i s ≡ Some n = ap (device_node top.merged i) (omega arith) ∙ o in (
      in_front _ (joined_at top.merged (face_request x.name) (response_name x.name) (device_node top.merged i s)) _ (subst (λ (z : Option NodeId). Among (connection (face_request face.name) (net (own_link top.merged n).request)) (joined_at top.merged (face_request x.name) (response_name x.name) z)) (sym here) (inl (ap (λ (z : LaidFace). connection (face_request z.name) (net (own_link top.merged n).request)) (sym same)))),
      in_front _ (joined_at top.merged (face_request x.name) (response_name x.name) (device_node top.merged i s)) _ (subst (λ (z : Option NodeId). Among (connection (response_name face.name) (net (own_link top.merged n).response)) (joined_at top.merged (face_request x.name) (response_name x.name) z)) (sym here) (inr (inl (ap (λ (z : LaidFace). connection (response_name z.name) (net (own_link top.merged n).response)) (sym same))))),
    )
face_in top i s (x ∷ faces) (suc f) face n e o =
    let h = face_in top i (suc s) faces f face n e (ap (device_node top.merged i) (omega arith) ∙ o) in
    (in_back _ (joined_at top.merged (face_request x.name) (response_name x.name) (device_node top.merged i s)) _ h.0, in_back _ (joined_at top.merged (face_request x.name) (response_name x.name) (device_node top.merged i s)) _ h.1)

pub face_same : (i f j g : ℕ) → Face i f ≡ Face j g → (i ≡ j) × (f ≡ g)
face_same i f j g e = (cc, cc)

-- the entry and the connection at which the device's net arrives
pub record AtFace (top : Built) (ms : List Module) (d : NodeId) (i f : ℕ) (h : HasFace top.merged i f) : Type 0 where
  pub number : ℕ
  pub arrival_is : arrival (top_module top ∷ ms) (own_link top.merged d).request 0 (top_module top).entries ≡ Some (instance_number top i, number)
  pub connection_is : slice_get (instance_connections top i) number ≡ Some (connection (face_request h.face.name) (net (own_link top.merged d).request))
  pub answer_is : connection_at (response_name h.face.name) (instance_connections top i) ≡ Some (net (own_link top.merged d).response)

-- where a device is: at the interface at which its net arrives, or at its port
abbrev pub arrived : Option (ℕ × ℕ) → walk.End
arrived None = walk.error
arrived (Some at) = walk.face at.0 at.1

abbrev pub target_by : Built → List Module → NodeId → NodeEnd → walk.End
target_by top ms d Outside = walk.outside (port_number (top_module top).ports (own_link top.merged d).request)
target_by top ms d e = arrived (arrival (top_module top ∷ ms) (own_link top.merged d).request 0 (top_module top).entries)

module _ (top : Built) (merged : IsJoined top.merged) (names : NamesApart top) (ms : List Module) (there : HasCrossbars top ms) (d : NodeId) (is : IsDevice top.merged d) where
  pub at_interface : (i f : ℕ) → end_of top.merged d ≡ Face i f → (h : HasFace top.merged i f) → AtFace top ms d i f h
  at_interface i f e h =
      let b = block_of top.merged i in
      let cs = instance_connections top i in
      let q = (own_link top.merged d).request in
      let mods = top_module top ∷ ms in
      let node : device_node top.merged i (0 + f) ≡ Some d = ap (device_node top.merged i) (omega arith) ∙ merged.device_found d i f is e in
      let pair = face_in top i 0 b.faces f h.face d h.face_is node in
      let c = connection (face_request h.face.name) (net q) in
      let a = connection (response_name h.face.name) (net (own_link top.merged d).response) in
      let inside : Among c cs = in_back c (instance_ties top.ties i) _ (in_front c (face_connections top.merged i 0 b.faces) _ pair.0) in
      let inside_too : Among a cs = in_back a (instance_ties top.ties i) _ (in_front a (face_connections top.merged i 0 b.faces) _ pair.1) in
      let differ = names.block_ports i h.instance_there in
      let counts : is_bare (connection_at (face_request h.face.name) cs) q ≡ true = ap (λ o. is_bare o q) (connection_found cs differ c inside) ∙ bare_itself q in
      let found = one_number (counts_at false) q cs 0 cs c inside counts
      (λ g g_in g_counts.
      let r = block_request top merged (names_of_top top names) d is i g g_in (bare_is g.value q (subst (λ o. is_bare o q ≡ true) (connection_found cs differ g g_in) g_counts)) in
      let number = face_same i r.number i f (sym r.end_is ∙ e) in
      let face : r.face ≡ h.face = some_same _ _ (sym r.face_is ∙ (ap (slice_get b.faces) number.1 ∙ h.face_is)) in
      r.connection_is ∙ ap (λ (z : LaidFace). connection (face_request z.name) (net q)) face) in
      let at : connection_number (counts_at (is_some_module (module_named mods b.desc.name))) q cs 0 cs ≡ Some (0 + found.0) =
      ap (λ o. connection_number (counts_at (is_some_module o)) q cs 0 cs) (there.blocks_unnamed i h.instance_there) ∙ found.1 in
      let zero_less : 0 + found.0 ≡ found.0 = omega arith in
      let size : length (map (instance_entry top) (counting 0 i)) ≡ i = length-map (counting 0 i) (instance_entry top) ∙ counting_length 0 i in
      let place : (0 + length (top_nets top)) + length (map (instance_entry top) (counting 0 i)) ≡ instance_number top i = omega (arith, size) in
      let xbars = map (crossbar_entry top) (counting 0 (length top.merged.xbars)) in
      let post = map (instance_entry top) (counting (suc i) (length top.merged.top.insts - suc i)) in
      record {
        number = found.0;
        arrival_is =
            ap (arrival mods q 0) (entries_of_top top)
            ∙ (skip_all mods q (top_nets top) _ 0 (skips_nets mods q top)
            ∙ (ap (λ es. arrival mods q (0 + length (top_nets top)) (es ++ xbars)) (numbered_split (instance_entry top) (length top.merged.top.insts) i h.instance_there)
            ∙ (ap (arrival mods q (0 + length (top_nets top))) (append_assoc (map (instance_entry top) (counting 0 i)) (instance_entry top i ∷ post) xbars)
            ∙ (found_entry mods q (map (instance_entry top) (counting 0 i)) (post ++ xbars) (0 + length (top_nets top)) b.desc.name (map address_width b.faces) (codes "u_" ++ (instance_of top.merged i).name) cs (0 + found.0)
            (λ x a. let m = from_map (instance_entry top) (counting 0 i) x a in let r = from_counting 0 i m.0 m.1 in
            subst (Skips mods q) (sym m.2) (skips_block top merged names ms there d is m.0 (λ g s. let same = face_same m.0 g i f (sym s ∙ e) in omega (arith, r.1, same.0)))) at
            ∙ pair_same _ _ _ _ place zero_less))));
        connection_is = found.2;
        answer_is = connection_found cs differ a inside_too;
      }

  face_not_outside : (i f : ℕ) → Face i f ≡ Outside → ⊥
  face_not_outside i f e = let no : true ≡ false = ap is_one e in absurd (cc) where
    is_one : NodeEnd → Bool
    is_one (Face i f) = true
    is_one _ = false

  -- at a device interface the way ends there
  pub ends_at_face : (i f : ℕ) → end_of top.merged d ≡ Face i f → (h : HasFace top.merged i f) → HasRegister top ms i f h → (request : Bits) (way : List Position)
      → Way (top_module top ∷ ms) request way (position between (own_link top.merged d)) (target_by top ms d (Face i f))
  ends_at_face i f e h r request way =
      let at = at_interface i f e h in
      let b = block_of top.merged i in
      let goes_there : next (top_module top ∷ ms) request (position between (own_link top.merged d) ∷ way) (position between (own_link top.merged d))
      ≡ meets (instance_number top i) at.number (record { part = b.desc.name; parameters = map address_width b.faces; connections = instance_connections top i; interface = h.face.name }) =
      arrives_by (top_module top) ms request (position between (own_link top.merged d) ∷ way) (own_link top.merged d) (instance_number top i) at.number (instance_entry top i)
      (is_no_output top (names_of_top top names) d is (λ o. face_not_outside i f (sym e ∙ o))) at.arrival_is (instance_there top i h.instance_there)
      ∙ (arrive_block (top_module top ∷ ms) (instance_number top i) at.number (own_link top.merged d) b.desc.name (map address_width b.faces) (codes "u_" ++ (instance_of top.merged i).name) (instance_connections top i)
      (connection (face_request h.face.name) (net (own_link top.merged d).request)) (there.blocks_unnamed i h.instance_there) at.connection_is
      ∙ ap (met (instance_number top i) at.number b.desc.name (map address_width b.faces) (instance_connections top i)) (interface_is h.face.name)) in
      let back : is_bare (connection_at (response_name h.face.name) (instance_connections top i)) (own_link top.merged d).response ≡ true =
      ap (λ o. is_bare o (own_link top.merged d).response) at.answer_is ∙ bare_itself (own_link top.merged d).response in
      subst (λ o. Way (top_module top ∷ ms) request way (position between (own_link top.merged d)) (arrived o)) (sym at.arrival_is)
      (reached goes_there (is_face top ms i f h r) back)

  -- outside the way ends at the port of the device's link
  ports_there : end_of top.merged d ≡ Outside → Among (output_port 70 (own_link top.merged d).request) (top_ports top) × Among (input_port 33 (own_link top.merged d).response) (top_ports top)
  ports_there e =
      let ports : node_ports top.merged d ≡ output_port 70 (own_link top.merged d).request ∷ input_port 33 (own_link top.merged d).response ∷ [] = rw (is.1, e) refl in
      (node_port_there top d is.0 _ (subst (Among _) (sym ports) (inl refl)), node_port_there top d is.0 _ (subst (Among _) (sym ports) (inr (inl refl))))

  goes_out_there : end_of top.merged d ≡ Outside → goes_out (top_module top) (own_link top.merged d) ≡ true
  goes_out_there e =
      let p = ports_there e in
      let q_port : has_port (top_module top).ports false 70 (own_link top.merged d).request ≡ true = ap (λ ps. has_port ps false 70 (own_link top.merged d).request) (ports_of_top top) ∙ port_there (top_ports top) false 70 (own_link top.merged d).request p.0 in
      let r_port : has_port (top_module top).ports true 33 (own_link top.merged d).response ≡ true = ap (λ ps. has_port ps true 33 (own_link top.merged d).response) (ports_of_top top) ∙ port_there (top_ports top) true 33 (own_link top.merged d).response p.1 in
      let answer : (own_link top.merged d).response ≡ answer_to (own_link top.merged d).request = response_is top d ∙ (sym (answer_of_request (link_base top.merged d)) ∙ ap answer_to (sym (request_is top d))) in
      let same : bytes_eq (own_link top.merged d).response (answer_to (own_link top.merged d).request) ≡ true = ap (λ n. bytes_eq n (answer_to (own_link top.merged d).request)) answer ∙ name_is_itself (answer_to (own_link top.merged d).request) in
      let end : ends_with (own_link top.merged d).request (codes "_req") ≡ true = ap (λ n. ends_with n (codes "_req")) (request_is top d) ∙ ends_itself (link_base top.merged d) (codes "_req") in
      rw (q_port, r_port, same, end) refl

  pub ends_outside : end_of top.merged d ≡ Outside → (request : Bits) (way : List Position)
      → Way (top_module top ∷ ms) request way (position between (own_link top.merged d)) (target_by top ms d Outside)
  ends_outside e request way =
      let p = ports_there e in
      let out : is_among (outputs_of (top_module top).ports) (own_link top.merged d).request ≡ true =
      ap (λ ps. is_among (outputs_of ps) (own_link top.merged d).request) (ports_of_top top) ∙ test_of_among (outputs_of (top_ports top)) (own_link top.merged d).request (output_there (top_ports top) _ p.0 refl) in
      ended (next_between (top_module top) ms request (position between (own_link top.merged d) ∷ way) (own_link top.merged d) ∙ rw (out, goes_out_there e) refl)

  -- the way from a device that is no crossbar ends where the device is
  pub ends_there : HasRegisters top ms → IsPlain (end_of top.merged d) → (request : Bits) (way : List Position)
      → Way (top_module top ∷ ms) request way (position between (own_link top.merged d)) (target_by top ms d (end_of top.merged d))
  ends_there registers plain request way = by (end_of top.merged d) refl plain where
    by : (e : NodeEnd) → end_of top.merged d ≡ e → IsPlain e → Way (top_module top ∷ ms) request way (position between (own_link top.merged d)) (target_by top ms d e)
    by (Face i f) e p = let h = merged.face_there d i f is e in ends_at_face i f e h (registers i f h) request way
    by (Host i f) e p = absurd (merged.device_ends d is i f e)
    by (Xbar y) e p = absurd p
    by Outside e p = ends_outside e request way
