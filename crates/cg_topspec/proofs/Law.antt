-- Each request of each host comes to what the address map says.
use Rattle.std.proofs.Common.{List, ap, codes, inl, inr, length, refl, subst, sym, true, ℕ, ◌%◌, ◌++◌, ◌∙◌, ◌∷◌, ◌≡◌, ◌⊎◌}
use Rattle.std.proofs.lemmas.List.{append_cancel_right}
use Rattle.cg_busspec.specs.Ranges.{address_of}
use Rattle.cg_desc.proofs.OneTarget.{each_address_has_one_target}
use Rattle.cg_desc.specs.Laid.{IsLaid}
use Rattle.cg_desc.specs.Merged.{EndAt, FaceAt, IsMerged, of_top}
use Rattle.cg_desc.specs.Ranges.{SomeHolds}
use Rattle.cg_desc.specs.Reach.{HasRanges, IsPlain, Reaches}
use Rattle.cg_desc.specs.Target.{IsTarget, target_at}
use Rattle.cg_desc.specs.declared.block.LaidFace.{LaidFace}
use Rattle.cg_desc.specs.declared.crossbar.Range.{Range}
use Rattle.cg_desc.specs.declared.top.MergedTop.{MergedTop}
use Rattle.cg_desc.specs.declared.top.NodeEnd.{NodeEnd}
use Rattle.cg_desc.specs.declared.top.NodeEnd.TheVariants.{Face, Host, Outside, Xbar}
use Rattle.cg_space.proofs.Merged.{is_sound}
use Rattle.cg_space.proofs.Mapping.{reached_device}
use Rattle.cg_space.proofs.OneRow.{laid_of}
use Rattle.cg_space.proofs.Sound.{one_face}
use Rattle.cg_space.proofs.Spacing.{unbroken_free}
use Rattle.cg_space.specs.Violations.{NoViolation}
use Rattle.cg_svspec.specs.Bits.{Bits}
use Rattle.cg_svspec.specs.Links.{host_link, port_number, spelled}
use Rattle.cg_svspec.specs.Tree.{Module}
use Rattle.cg_svspec.specs.Walk.{Walks}
use Rattle.cg_topspec.proofs.AtPlaces.{itself, place_inside, place_of_none, place_outside}
use Rattle.cg_topspec.proofs.Behind.{block_among, has_crossbars}
use Rattle.cg_topspec.proofs.Built.{Built, HasCrossbars, HasRegisters, IsDevice, IsHost, IsJoined, NamesApart, top_module}
use Rattle.cg_topspec.proofs.Merges.{device_ends, device_found, face_there, host_ends, inner_found, nested_there, outer_found, outer_given, plain_node}
use Rattle.cg_topspec.proofs.Nets.{HasLink, one_request, request_is}
use Rattle.cg_topspec.proofs.NoClash.{names_apart}
use Rattle.cg_topspec.proofs.Registers.{has_registers}
use Rattle.cg_topspec.proofs.Relations.{device_there, end_fact, end_is, node_fact}
use Rattle.cg_topspec.proofs.TopFaces.{arrived, at_interface, is_face, target_by}
use Rattle.cg_topspec.proofs.TopStart.{plain_has}
use Rattle.cg_topspec.proofs.TopWay.{WalksNowhere, WalksTo, walks_over}
use Rattle.cg_topspec.proofs.Whole.{names_of_top, ports_of_top}
use Rattle.cg_topspec.specs.Nets.{link_base, own_link}
use Rattle.cg_topspec.specs.Top.{NodeId, block_of, crossbar_of, end_of, is_host, node_id, node_of}
use Rattle.cg_topspec.specs.Ways.{Comes, RequestsCome, to_interface, to_nothing, to_port}
use Rattle.cg_svspec.specs.Walk as walk

-- ---- hosts that stand for no crossbar

same_base : (m : MergedTop) (a b : NodeId) → a.xbar ≡ b.xbar → is_host m a ≡ true → is_host m b ≡ true → spelled (node_of m a).name ≡ spelled (node_of m b).name → link_base m a ≡ link_base m b
same_base m a b x p q e =
    let left : link_base m a ≡ codes "x_" ++ ((crossbar_of m a.xbar).name ++ (codes "_h_" ++ spelled (node_of m a).name)) = rw p refl in
    let right : link_base m b ≡ codes "x_" ++ ((crossbar_of m b.xbar).name ++ (codes "_h_" ++ spelled (node_of m b).name)) = rw q refl in
    left ∙ (ap (λ k. codes "x_" ++ ((crossbar_of m k).name ++ (codes "_h_" ++ spelled (node_of m a).name))) x
    ∙ (ap (λ s. codes "x_" ++ ((crossbar_of m b.xbar).name ++ (codes "_h_" ++ s))) e ∙ sym right))

hosts_apart : (top : Built) → IsMerged top.merged → NamesApart top → (a b : NodeId) → IsHost top.merged a → IsHost top.merged b → IsPlain (end_of top.merged a) → IsPlain (end_of top.merged b)
    → (host_link (node_of top.merged a).name).request ≡ (host_link (node_of top.merged b).name).request → a ≡ b
hosts_apart top merged names a b is_a is_b plain_a plain_b e =
    let m = top.merged in
    let ends : spelled (node_of m a).name ++ codes "_req" ≡ spelled (node_of m b).name ++ codes "_req" = cc in
    let same : spelled (node_of m a).name ≡ spelled (node_of m b).name = append_cancel_right (spelled (node_of m a).name) (spelled (node_of m b).name) (codes "_req") ends in
    let x : a.xbar ≡ b.xbar = merged.nodes.spelled_once a.xbar a.node b.xbar b.node (node_of m a) (node_of m b) (node_fact m a is_a.0) (node_fact m b is_b.0)
    (plain_node m merged a is_a.0 plain_a) (plain_node m merged b is_b.0 plain_b) same in
    one_request top (names_of_top top names) a b is_a.0 is_b.0 (subst (λ k. HasLink k (end_of m a)) (sym is_a.1) (plain_has (end_of m a) plain_a))
    (subst (λ k. HasLink k (end_of m b)) (sym is_b.1) (plain_has (end_of m b) plain_b))
    (request_is top a ∙ (ap (λ k. k ++ codes "_req") (same_base m a b x is_a.1 is_b.1 same) ∙ sym (request_is top b)))

pub is_joined : (top : Built) → IsMerged top.merged → NamesApart top → IsJoined top.merged
is_joined top merged names = record {
  host_ends = host_ends top.merged merged;
  device_ends = device_ends top.merged merged;
  nested_there = nested_there top.merged merged;
  inner_found = inner_found top.merged merged;
  outer_given = outer_given top.merged merged;
  outer_found = outer_found top.merged merged;
  device_found = device_found top.merged merged;
  hosts_apart = hosts_apart top merged names;
  face_there = face_there top.merged merged;
}

-- ---- what the walk's end is

module _ (top : Built) (merged : IsMerged top.merged) (none : NoViolation top.merged) (joined : IsJoined top.merged) (names : NamesApart top) (ms : List Module)
    (there : HasCrossbars top ms) (registers : HasRegisters top ms) (x h : ℕ) (host : List ℕ) (request : Bits) (sized : length request ≡ 70) where
  abbrev Ends : Type 0
  Ends = Comes top.merged top.numbers top.ties top.pins ms x h host request

  at_the_interface : (z d i f : ℕ) (rs : List Range) → Reaches top.merged x h z d → HasRanges top.merged z d rs → SomeHolds rs (address_of request) → IsDevice top.merged (node_id z d)
      → EndAt top.merged z d (Face i f) → end_of top.merged (node_id z d) ≡ Face i f → Walks (top_module top ∷ ms) host request (target_by top ms (node_id z d) (Face i f)) → Ends
  unfolding is_face
  at_the_interface z d i f rs reaches has holds device stands e w =
      let m = top.merged in
      let n = node_id z d in
      let g = joined.face_there n i f device e in
      let a = at_interface top joined names ms there n device i f e g in
      let at = block_among m merged i g.instance_there in
      let face_at : FaceAt m i f g.face = (block_of m i, at, g.face_is) in
      let it = itself m merged none x h (address_of request) z d i f rs reaches stands has holds in
      let same : it.face ≡ g.face = one_face m i f it.face g.face it.face_is face_at in
      let laid : IsLaid g.face = laid_of m i f g.face merged face_at in
      let target = each_address_has_one_target g.face laid (address_of request % g.face.size) in
      let r = registers i f g in
      let parameter = (is_face top ms i f g r).width_is in
      to_interface i f a.number z d g.face (target_at g.face (address_of request % g.face.size))
      (record { interface_is = face_at; stands = stands; request_is = a.connection_is; response_is = a.answer_is; width = r.bits; size_is = r.size_is; width_is = parameter })
      target.there
      (place_inside m merged none x h (address_of request) z d i f rs reaches stands has holds (target_at g.face (address_of request % g.face.size))
      (subst (λ (l : LaidFace). IsTarget l (address_of request % l.size) (target_at g.face (address_of request % g.face.size))) (sym same) target.there))
      (subst (λ o. Walks (top_module top ∷ ms) host request (arrived o)) a.arrival_is w)

  comes_by : (z d : ℕ) (rs : List Range) → Reaches top.merged x h z d → HasRanges top.merged z d rs → SomeHolds rs (address_of request) → IsPlain (end_of top.merged (node_id z d))
      → IsDevice top.merged (node_id z d) → EndAt top.merged z d (end_of top.merged (node_id z d))
      → Walks (top_module top ∷ ms) host request (target_by top ms (node_id z d) (end_of top.merged (node_id z d))) → Ends
  comes_by z d rs reaches has holds plain device stands w = by (end_of top.merged (node_id z d)) refl plain stands w where
    by : (e : NodeEnd) → end_of top.merged (node_id z d) ≡ e → IsPlain e → EndAt top.merged z d e → Walks (top_module top ∷ ms) host request (target_by top ms (node_id z d) e) → Ends
    by (Face i f) e p at v = at_the_interface z d i f rs reaches has holds device at e v
    by (Host i f) e p at v = absurd (joined.device_ends (node_id z d) device i f e)
    by (Xbar y) e p at v = absurd p
    by Outside e p at v =
        to_port z d at (place_outside top.merged merged none x h (address_of request) z d rs reaches at has holds)
        (subst (λ ps. Walks (top_module top ∷ ms) host request (walk.outside (port_number ps (own_link top.merged (node_id z d)).request))) (ports_of_top top) v)

pub requests_come : RequestsCome
requests_come m numbers ties pins ms fits none clash has x h at request sized =
    by (walks_over top joined (unbroken_free m none) (is_sound m (of_top fits.merged)) names ms there registers request sized x h at.host at.is at.is_host plain) where
      top : Built
      top = record { merged = m; numbers = numbers; ties = ties; pins = pins }

      names : NamesApart top
      names = names_apart top fits.ties_are clash ms has

      joined : IsJoined m
      joined = is_joined top fits.merged names

      there : HasCrossbars top ms
      there = has_crossbars top fits.merged none ms has

      registers : HasRegisters top ms
      registers = has_registers top fits.merged ms has

      plain : IsPlain (end_of m (node_id x h))
      plain = subst IsPlain (sym (end_is m x h at.end at.stands)) at.plain

      by : WalksTo top joined (unbroken_free m none) (is_sound m (of_top fits.merged)) names ms there registers request sized x h at.host.name
          ⊎ WalksNowhere top joined (unbroken_free m none) (is_sound m (of_top fits.merged)) names ms there registers request sized x h at.host.name
          → Comes m numbers ties pins ms x h at.host.name request
      by (inl w) =
          let known = reached_device m x h w.z w.device (is_sound m (of_top fits.merged)) w.reaches in
          let device = device_there m w.z w.device known.0 known.1 known.2 in
          comes_by top fits.merged none joined names ms there registers x h at.host.name request sized w.z w.device w.ranges w.reaches w.has w.holds w.plain device
          (end_fact m (node_id w.z w.device) device.0 fits.merged.ends.count fits.merged.ends.counts) w.walk_is
      by (inr w) = to_nothing (place_of_none m fits.merged none x h (address_of request) w.none) w.walk_is
