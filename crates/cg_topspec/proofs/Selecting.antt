-- Each device interface steps as its register block, the one at which the request ends at the place that the address map gives.
use Rattle.std.proofs.Common.{Bool, List, Some, ap, arith, codes, cond, drop, map, refl, slice_get, subst, sym, true, ℕ, ◌%◌, ◌++◌, ◌∙◌, ◌∷◌, ◌≡◌}
use Rattle.std.proofs.lemmas.Bool.{eqb-true}
use Rattle.cg_busspec.specs.CrossbarModule.{connection}
use Rattle.cg_busspec.specs.Ranges.{address_of}
use Rattle.cg_clkrst.specs.declared.tie.Tie.{Tie}
use Rattle.cg_desc.proofs.Numbered.{same_item}
use Rattle.cg_desc.proofs.OneTarget.{each_address_has_one_target}
use Rattle.cg_desc.specs.AddressMap.{IsPlaceFor}
use Rattle.cg_desc.specs.BlockStep.{Access, BlockStep}
use Rattle.cg_desc.specs.Laid.{IsLaid}
use Rattle.cg_desc.specs.Merged.{EndAt, FaceAt, IsMerged}
use Rattle.cg_desc.specs.Target.{IsTarget, target_at}
use Rattle.cg_desc.specs.declared.block.LaidFace.{LaidFace}
use Rattle.cg_desc.specs.declared.top.MergedTop.{MergedTop}
use Rattle.cg_desc.specs.declared.top.NodeEnd.TheVariants.{Face}
use Rattle.cg_irq.specs.declared.bits.IrqMap.{IrqMap}
use Rattle.cg_pinmux.specs.declared.map.PinMap.{PinMap}
use Rattle.cg_regspec.specs.Meaning.{hardware_in, outcome_in, state_in}
use Rattle.cg_space.proofs.OneRow.{laid_of}
use Rattle.cg_space.proofs.Sound.{one_end, one_face}
use Rattle.cg_svspec.proofs.OneEnd.{walk_has_one_end}
use Rattle.cg_svspec.specs.Bits.{Bits}
use Rattle.cg_svspec.specs.Tree.{Connection, Module, net}
use Rattle.cg_svspec.specs.Value.{Values}
use Rattle.cg_svspec.specs.Walk.{End, Walks, no_host, no_module}
use Rattle.cg_topspec.proofs.Behind.{block_among, has_crossbars}
use Rattle.cg_topspec.proofs.Built.{Built, HasCrossbars, HasFace, HasRegister, HasRegisters, IsDevice, IsJoined, NamesApart, instance_connections, top_module}
use Rattle.cg_topspec.proofs.Law.{is_joined, requests_come}
use Rattle.cg_topspec.proofs.Lows.{low_bits}
use Rattle.cg_topspec.proofs.Merges.{end_device}
use Rattle.cg_topspec.proofs.Nets.{device_has_link, one_request}
use Rattle.cg_topspec.proofs.NoClash.{names_apart}
use Rattle.cg_topspec.proofs.Nodes.{and_both}
use Rattle.cg_topspec.proofs.Registers.{has_registers}
use Rattle.cg_topspec.proofs.Relations.{end_is}
use Rattle.cg_topspec.proofs.TopFaces.{AtFace, at_interface, interface_is, is_face}
use Rattle.cg_topspec.proofs.TopNets.{instance_number, instance_there}
use Rattle.cg_topspec.proofs.Whole.{names_of_top}
use Rattle.cg_topspec.specs.Nets.{own_link}
use Rattle.cg_topspec.specs.Select.{InterfaceAt, InterfaceSteps, IsClock, SelectMeans, access_at, access_of, ends_at, no_access}
use Rattle.cg_topspec.specs.Top.{NodeId, block_of, end_of, instance_of, node_id}
use Rattle.cg_topspec.specs.TopModule.{address_width, face_request}
use Rattle.cg_topspec.specs.Ways.{Comes, MeetsInterface, target_place, to_interface, to_nothing, to_port}
use Rattle.cg_svspec.specs.Walk as walk

-- an end that is there is at that connection
ends_at_gives : (end : walk.End) (i j : ℕ) → ends_at end i j ≡ true → end ≡ walk.face i j
ends_at_gives (walk.face a b) i j e =
    let h = and_both _ _ e in
    let p : a ≡ i = eqb-true _ _ h.0 in
    let q : b ≡ j = eqb-true _ _ h.1 in rw (p, q) refl
ends_at_gives (walk.outside p) i j e = cc
ends_at_gives walk.error i j e = cc
ends_at_gives walk.no_host i j e = cc
ends_at_gives walk.no_module i j e = cc

face_parts : (a b i j : ℕ) → walk.face a b ≡ walk.face i j → (a ≡ i) × (b ≡ j)
face_parts a b i j e = (cc, cc)

connection_value : (a b : List ℕ) (p q : List ℕ) → connection a (net p) ≡ connection b (net q) → p ≡ q
connection_value a b p q e = let value : net p ≡ net q = ap (λ (c : Connection). c.value) e in cc

module _ (m : MergedTop) (numbers : IrqMap) (ties : List Tie) (pins : PinMap) (ms : List Module) (x h : ℕ) (request : Bits) (end : walk.End) (inputs states v next : ℕ → ℕ → Values)
    (clock : IsClock m numbers ties pins ms x h request end inputs states v next) where
  abbrev top : Built
  top = record { merged = m; numbers = numbers; ties = ties; pins = pins }

  merged : IsMerged m
  merged = clock.fits.merged

  names : NamesApart top
  names = names_apart top clock.fits.ties_are clock.no_clash ms clock.modules

  joined : IsJoined m
  joined = is_joined top merged names

  there : HasCrossbars top ms
  there = has_crossbars top merged clock.unbroken ms clock.modules

  registers : HasRegisters top ms
  registers = has_registers top merged ms clock.modules

  module _ (i f z d : ℕ) (stands : EndAt m z d (Face i f)) where
    abbrev node : NodeId
    node = node_id z d

    -- what stands for a device interface is a device
    device : IsDevice m node
    device = end_device m merged z d i f stands

    end_is_face : end_of m node ≡ Face i f
    end_is_face = end_is m z d (Face i f) stands

    face_is : HasFace m i f
    face_is = joined.face_there node i f device end_is_face

    at : AtFace top ms node i f face_is
    at = at_interface top joined names ms there node device i f end_is_face face_is

    r : HasRegister top ms i f face_is
    r = registers i f face_is

    abbrev n : ℕ
    n = instance_number top i

    -- the interface, as the walk finds it
    found_at : InterfaceAt (top_module top) ms n at.number
    found_at = record {
      part = (block_of m i).desc.name;
      parameters = map address_width (block_of m i).faces;
      name = codes "u_" ++ (instance_of m i).name;
      connections = instance_connections top i;
      interface = face_is.face.name;
      at = _;
      entry_is = instance_there top i face_is.instance_there;
      no_module = there.blocks_unnamed i face_is.instance_there;
      connection_is = at.connection_is;
      interface_is = interface_is face_is.face.name;
      is_face = is_face top ms i f face_is r;
    }

    fact : FaceAt m i f face_is.face
    fact = (block_of m i, block_among m merged i face_is.instance_there, face_is.face_is)

    laid : IsLaid face_is.face
    laid = laid_of m i f face_is.face merged fact

    abbrev the_access : Access
    the_access = access_at end n at.number r.bits request

    step : BlockStep face_is.face (target_at face_is.face the_access.address) the_access (state_in (states n at.number)) (hardware_in (inputs n at.number)) (outcome_in (v n at.number) (next n at.number))
    unfolding is_face found_at
    step = r.means.steps (inputs n at.number) (states n at.number) (v n at.number) (next n at.number) the_access (target_at face_is.face the_access.address)
        (clock.selects.widths n at.number found_at) (clock.selects.carries n at.number found_at) (each_address_has_one_target face_is.face laid the_access.address).there
        (clock.selects.steps n at.number found_at)

    -- where the request ends here, the address map gives what the low bits are here
    place_here : Walks (top_module top ∷ ms) clock.host.host.name request (walk.face n at.number)
        → IsPlaceFor m x h (address_of request) (target_place i f (target_at face_is.face (address_of request % face_is.face.size)))
    place_here w = by (requests_come m numbers ties pins ms clock.fits clock.unbroken clock.no_clash clock.modules x h clock.host request clock.sized) where
      one : (e : walk.End) → Walks (top_module top ∷ ms) clock.host.host.name request e → e ≡ walk.face n at.number
      one e other = walk_has_one_end (top_module top ∷ ms) clock.host.host.name request e (walk.face n at.number) other w

      by : Comes m numbers ties pins ms x h clock.host.host.name request → IsPlaceFor m x h (address_of request) (target_place i f (target_at face_is.face (address_of request % face_is.face.size)))
      by (to_nothing place other) = absurd (let e = one walk.error other in cc)
      by (to_port c e ends place other) = absurd (let e = one _ other in cc)
      by (to_interface i2 f2 j2 z2 d2 interface target meets is place other) =
          let parts = face_parts (instance_number top i2) j2 n at.number (one _ other) in
          let same_i : i2 ≡ i = omega (arith, parts.0) in
          let request_at : slice_get (instance_connections top i) at.number ≡ Some (connection (face_request interface.name) (net (own_link m (node_id z2 d2)).request)) =
          subst (λ k. slice_get (instance_connections top k) at.number ≡ Some (connection (face_request interface.name) (net (own_link m (node_id z2 d2)).request))) same_i
          (subst (λ k. slice_get (instance_connections top i2) k ≡ Some (connection (face_request interface.name) (net (own_link m (node_id z2 d2)).request))) parts.1 meets.request_is) in
          let both = same_item (instance_connections top i) at.number _ _ request_at at.connection_is in
          let theirs = end_device m merged z2 d2 i2 f2 meets.stands in
          let nodes : node_id z2 d2 ≡ node_id z d = one_request top (names_of_top top names) (node_id z2 d2) (node_id z d) theirs.0 device.0 (device_has_link top (node_id z2 d2) theirs) (device_has_link top (node_id z d) device)
          (connection_value _ _ _ _ both) in
          let zs : z2 ≡ z = ap (λ (k : NodeId). k.xbar) nodes in
          let ds : d2 ≡ d = ap (λ (k : NodeId). k.node) nodes in
          let here : EndAt m z d (Face i2 f2) = subst (λ k. EndAt m k d (Face i2 f2)) zs (subst (λ k. EndAt m z2 k (Face i2 f2)) ds meets.stands) in
          let faces : Face i2 f2 ≡ Face i f = one_end m z d (Face i2 f2) (Face i f) here stands in
          let same_f : f2 ≡ f = cc in
          let interface_same : interface ≡ face_is.face = one_face m i f interface face_is.face (subst (λ k. FaceAt m i k interface) same_f (subst (λ k. FaceAt m k f2 interface) same_i meets.interface_is)) fact in
          let mine : IsTarget face_is.face (address_of request % face_is.face.size) target = subst (λ (l : LaidFace). IsTarget l (address_of request % l.size) target) interface_same is in
          let target_same : target ≡ target_at face_is.face (address_of request % face_is.face.size) = (each_address_has_one_target face_is.face laid (address_of request % face_is.face.size)).one target mine in
          subst (λ t. IsPlaceFor m x h (address_of request) (target_place i f t)) target_same
          (subst (λ k. IsPlaceFor m x h (address_of request) (target_place i k target)) same_f (subst (λ k. IsPlaceFor m x h (address_of request) (target_place k f2 target)) same_i place))

    -- it meets the requests there
    meets_here : MeetsInterface m ties i f at.number z d face_is.face
    unfolding is_face
    meets_here = record {
      interface_is = fact;
      stands = stands;
      request_is = at.connection_is;
      response_is = at.answer_is;
      width = r.bits;
      size_is = r.size_is;
      width_is = (is_face top ms i f face_is r).width_is;
    }

    the_address : ends_at end n at.number ≡ true → the_access.address ≡ address_of request % face_is.face.size
    the_address here =
        ap (λ (b : Bool). (cond b (access_of r.bits request) no_access).address) here ∙ (low_bits r.bits 32 (drop 32 request) r.few ∙ ap (λ k. address_of request % k) (sym r.size_is))

    steps_so : InterfaceSteps m numbers ties pins x h request end inputs states v next i f z d face_is.face
    unfolding meets_here
    steps_so = record {
      number = at.number;
      meets = meets_here;
      access = the_access;
      target = target_at face_is.face the_access.address;
      target_is = (each_address_has_one_target face_is.face laid the_access.address).there;
      steps = step;
      unreached = λ away. ap (λ b. cond b (access_of r.bits request) no_access) away;
      reached = λ here. (
        ap (λ b. cond b (access_of r.bits request) no_access) here,
        the_address here,
        subst (λ k. IsPlaceFor m x h (address_of request) (target_place i f (target_at face_is.face k))) (sym (the_address here))
            (place_here (subst (λ e. Walks (top_module top ∷ ms) clock.host.host.name request e) (ends_at_gives end n at.number here) clock.selects.walks)),
      );
    }

    interface_steps : (interface : LaidFace) → FaceAt m i f interface → InterfaceSteps m numbers ties pins x h request end inputs states v next i f z d interface
    interface_steps interface known =
        subst (λ (l : LaidFace). InterfaceSteps m numbers ties pins x h request end inputs states v next i f z d l) (one_face m i f face_is.face interface fact known) steps_so

pub select_means : SelectMeans
select_means m numbers ties pins ms x h request end inputs states v next clock i f z d interface stands known =
    interface_steps m numbers ties pins ms x h request end inputs states v next clock i f z d stands interface known
