-- What a valid merged top says of its nodes, as the way needs it.
use Rattle.std.proofs.Common.{Bool, Some, ap, arith, false, get_or, length, not, refl, slice_get, subst, sym, true, ℕ, ◌&&◌, ◌<◌, ◌∙◌, ◌≡◌}
use Rattle.std.proofs.lemmas.Bool.{eq-eqb, false≢true}
use Rattle.std.proofs.lemmas.Option.{slice_get_within}
use Rattle.cg_desc.proofs.Numbered.{item_at, item_number}
use Rattle.cg_desc.specs.Crossbar.{IsValidCrossbar, NodeIs}
use Rattle.cg_desc.specs.Ends.{CrossbarIs, Joins, NamesFace, StandsFor}
use Rattle.cg_desc.specs.Merged.{EndAt, FaceAt, IsMerged, NodeAt, design_of, of_top}
use Rattle.cg_desc.specs.Reach.{IsPlain}
use Rattle.cg_desc.specs.Top.{Design}
use Rattle.cg_desc.specs.declared.block.LaidBlock.{LaidBlock}
use Rattle.cg_desc.specs.declared.block.LaidFace.{LaidFace}
use Rattle.cg_desc.specs.declared.crossbar.NodeDesc.{NodeDesc}
use Rattle.cg_desc.specs.declared.crossbar.XbarDesc.{XbarDesc}
use Rattle.cg_desc.specs.declared.top.MergedTop.{MergedTop}
use Rattle.cg_desc.specs.declared.top.NodeEnd.{NodeEnd}
use Rattle.cg_desc.specs.declared.top.NodeEnd.TheVariants.{Face, Host, Outside, Xbar}
use Rattle.cg_space.proofs.Merged.{is_sound}
use Rattle.cg_space.proofs.Tabling.{all_at}
use Rattle.cg_space.specs.Inner.Sound.{IsSound}
use Rattle.cg_svspec.specs.Names.{Among}
use Rattle.cg_topspec.proofs.Built.{HasFace, IsDevice, IsHost, IsNode}
use Rattle.cg_topspec.proofs.ListLemmas.{from_each, only_found}
use Rattle.cg_topspec.proofs.Nodes.{and_both, is_crossbar_gives, node_of_all, node_xbar}
use Rattle.cg_topspec.proofs.Relations.{crossbar_is, device_there, end_fact, get_or_is, node_fact, node_is}
use Rattle.cg_topspec.proofs.TopConnections.{device_face_gives}
use Rattle.cg_topspec.proofs.TopLinks.{joins}
use Rattle.cg_topspec.specs.Top.{NodeId, all_nodes, block_of, counting, device_node, end_of, inner_host, is_crossbar, is_device_face, is_host, no_block, node_id, node_of, nodes_in, outer_device}

-- ---- what a node's end says

pub face_by : (d : Design) (x i f : ℕ) (node : NodeDesc) (e : NodeEnd) → e ≡ Face i f → StandsFor d x node e → NamesFace d node i f
face_by d x i f node (Face j g) e (StandsFor.device_interface _ _ names) =
    let a : j ≡ i = cc in
    let b : g ≡ f = cc in
    subst (λ k. NamesFace d node i k) b (subst (λ k. NamesFace d node k g) a names)
face_by d x i f node (Host j g) e s = absurd cc
face_by d x i f node (Xbar y) e s = absurd cc
face_by d x i f node Outside e s = absurd cc

host_by : (d : Design) (x i f : ℕ) (node : NodeDesc) (e : NodeEnd) → e ≡ Host i f → StandsFor d x node e → node.host ≡ true
host_by d x i f node (Host j g) e (StandsFor.host_interface _ _ names) = names.host
host_by d x i f node (Face j g) e s = absurd cc
host_by d x i f node (Xbar y) e s = absurd cc
host_by d x i f node Outside e s = absurd cc

pub joins_by : (d : Design) (x y : ℕ) (node : NodeDesc) (e : NodeEnd) → e ≡ Xbar y → StandsFor d x node e → Joins d x node y
joins_by d x y node (Xbar z) e (StandsFor.crossbar _ joins) = let a : z ≡ y = cc in subst (λ k. Joins d x node k) a joins
joins_by d x y node (Face j g) e s = absurd cc
joins_by d x y node (Host j g) e s = absurd cc
joins_by d x y node Outside e s = absurd cc

-- a node with `xbar` stands for the crossbar that it joins
nested_by : (m : MergedTop) → IsMerged m → (x y : ℕ) (node : NodeDesc) (e : NodeEnd) → node.xbar ≡ true → Joins (design_of m) x node y → StandsFor (design_of m) x node e → e ≡ Xbar y
nested_by m is x y node (Face i f) nested joins (StandsFor.device_interface _ _ names) = absurd (false≢true (sym names.plain ∙ nested))
nested_by m is x y node (Host i f) nested joins (StandsFor.host_interface _ _ names) = absurd (false≢true (sym names.plain ∙ nested))
nested_by m is x y node (Xbar z) nested joins (StandsFor.crossbar _ other) =
    ap Xbar (is.names.crossbars z y other.inner joins.inner other.inner_is joins.inner_is (sym other.names ∙ joins.names))
nested_by m is x y node Outside nested joins (StandsFor.outside _ _ none) = absurd (none y joins)

crossbar_itself : (y : ℕ) (e : NodeEnd) → e ≡ Xbar y → is_crossbar y e ≡ true
crossbar_itself y (Xbar z) e = let a : z ≡ y = cc in eq-eqb z y a
crossbar_itself y (Face i f) e = absurd cc
crossbar_itself y (Host i f) e = absurd cc
crossbar_itself y Outside e = absurd cc

face_itself : (i f : ℕ) (e : NodeEnd) → e ≡ Face i f → is_device_face i f e ≡ true
face_itself i f (Face j g) e = let a : j ≡ i = cc in let b : g ≡ f = cc in rw (eq-eqb j i a, eq-eqb g f b) refl
face_itself i f (Host j g) e = absurd cc
face_itself i f (Xbar y) e = absurd cc
face_itself i f Outside e = absurd cc

and_true : (a b : Bool) → a ≡ true → b ≡ true → (a && b) ≡ true
and_true a b p q = rw (p, q) refl

pub same_node : (a b : NodeId) → a.xbar ≡ b.xbar → a.node ≡ b.node → a ≡ b
same_node a b p q = ap (λ x. node_id x a.node) p ∙ ap (node_id b.xbar) q

-- a node of a crossbar is among those that are numbered there
among_its : (m : MergedTop) (n : NodeId) → IsNode m n → Among n (nodes_in m n.xbar)
among_its m n is =
    let h = from_each (nodes_in m) (counting 0 (length m.xbars)) n is in
    subst (λ x. Among n (nodes_in m x)) (sym (node_xbar m h.0 n h.2)) h.2

module _ (m : MergedTop) (is : IsMerged m) where
  sound : IsSound m
  sound = is_sound m (of_top is)

  pub end_at : (n : NodeId) → IsNode m n → EndAt m n.xbar n.node (end_of m n)
  end_at n there = end_fact m n there is.ends.count is.ends.counts

  pub stands : (n : NodeId) → IsNode m n → StandsFor (design_of m) n.xbar (node_of m n) (end_of m n)
  stands n there = is.ends.each n.xbar n.node (node_of m n) (end_of m n) (node_fact m n there) (end_at n there)

  -- nodes of one crossbar with one name are one
  one_name : (a b : NodeId) → IsNode m a → IsNode m b → a.xbar ≡ b.xbar → (node_of m a).name ≡ (node_of m b).name → a ≡ b
  one_name a b there_a there_b same name =
      let fact = node_fact m a there_a in
      let other : NodeAt m a.xbar b.node (node_of m b) = subst (λ x. NodeAt m x b.node (node_of m b)) (sym same) (node_fact m b there_b) in
      let valid = all_at IsValidCrossbar m.xbars a.xbar fact.crossbar is.crossbars fact.crossbar_is in
      let xbars : other.crossbar ≡ fact.crossbar = same_crossbar m a.xbar other.crossbar fact.crossbar other.crossbar_is fact.crossbar_is in
      same_node a b same (valid.names_differ a.node b.node (node_of m a) (node_of m b) fact.is (subst (λ (c : XbarDesc). NodeIs c b.node (node_of m b)) xbars other.is) name)
    where
      same_crossbar : (m : MergedTop) (x : ℕ) (a b : XbarDesc) → CrossbarIs (design_of m) x a → CrossbarIs (design_of m) x b → a ≡ b
      same_crossbar m x a b p q = sym (crossbar_is m x a p) ∙ crossbar_is m x b q

  -- nodes of one crossbar that join one crossbar are one
  pub one_joined : (a b : NodeId) (y : ℕ) → IsNode m a → IsNode m b → a.xbar ≡ b.xbar → end_of m a ≡ Xbar y → end_of m b ≡ Xbar y → a ≡ b
  one_joined a b y there_a there_b same end_a end_b =
      let p = joins_by (design_of m) a.xbar y (node_of m a) (end_of m a) end_a (stands a there_a) in
      let q = joins_by (design_of m) b.xbar y (node_of m b) (end_of m b) end_b (stands b there_b) in
      let inner : p.inner ≡ q.inner = sym (crossbar_is m y p.inner p.inner_is) ∙ crossbar_is m y q.inner q.inner_is in
      one_name a b there_a there_b same (p.names ∙ (ap (λ (c : XbarDesc). c.name) inner ∙ sym q.names))

  pub host_ends : (n : NodeId) → IsHost m n → (i f : ℕ) → end_of m n ≡ Face i f → ⊥
  host_ends n host i f e = let names = face_by (design_of m) n.xbar i f (node_of m n) (end_of m n) e (stands n host.0) in false≢true (sym names.device ∙ host.1)

  pub device_ends : (n : NodeId) → IsDevice m n → (i f : ℕ) → end_of m n ≡ Host i f → ⊥
  device_ends n device i f e = false≢true (sym device.1 ∙ host_by (design_of m) n.xbar i f (node_of m n) (end_of m n) e (stands n device.0))

  pub nested_there : (d : NodeId) (y : ℕ) → IsDevice m d → end_of m d ≡ Xbar y → y < length m.xbars
  nested_there d y device e = let joins = joins_by (design_of m) d.xbar y (node_of m d) (end_of m d) e (stands d device.0) in slice_get_within m.xbars y joins.inner joins.inner_is

  pub inner_found : (h : NodeId) (x : ℕ) → IsHost m h → end_of m h ≡ Xbar x → inner_host m x h.xbar ≡ Some h
  inner_found h x host e =
      only_found (λ n. is_host m n && is_crossbar x (end_of m n)) (nodes_in m h.xbar) h (among_its m h host.0) (and_true _ _ host.1 (crossbar_itself x (end_of m h) e))
      (λ n a passes.
      let both = and_both (is_host m n) (is_crossbar x (end_of m n)) passes in
      one_joined n h x (node_of_all m h.xbar n a) host.0 (node_xbar m h.xbar n a) (is_crossbar_gives x (end_of m n) both.1) e)

  pub outer_found : (d : NodeId) (y : ℕ) → IsDevice m d → end_of m d ≡ Xbar y → outer_device m d.xbar y ≡ Some d
  outer_found d y device e =
      only_found (λ n. not (is_host m n) && is_crossbar y (end_of m n)) (nodes_in m d.xbar) d (among_its m d device.0) (and_true _ _ (ap not device.1) (crossbar_itself y (end_of m d) e))
      (λ n a passes.
      let both = and_both (not (is_host m n)) (is_crossbar y (end_of m n)) passes in
      one_joined n d y (node_of_all m d.xbar n a) device.0 (node_xbar m d.xbar n a) (is_crossbar_gives y (end_of m n) both.1) e)

  pub outer_given : (h : NodeId) (x : ℕ) → IsHost m h → end_of m h ≡ Xbar x → (d : NodeId) × (outer_device m x h.xbar ≡ Some d)
  outer_given h x host e =
      let joins = joins_by (design_of m) h.xbar x (node_of m h) (end_of m h) e (stands h host.0) in
      let number = item_number joins.inner.nodes joins.partner joins.partner_there in
      let at : NodeAt m x number.0 joins.partner = record { crossbar = joins.inner; crossbar_is = joins.inner_is; is = number.1 } in
      let d = node_id x number.0 in
      let device : IsDevice m d = device_there m x number.0 joins.partner at (joins.partner_faces ∙ ap not host.1) in
      let back = is.nodes.joined x number.0 joins.partner at joins.partner_nested in
      let node : node_of m d ≡ joins.partner = node_is m x number.0 joins.partner at in
      let end : end_of m d ≡ Xbar back.0 =
      nested_by m is x back.0 joins.partner (end_of m d) joins.partner_nested back.1 (subst (λ (n : NodeDesc). StandsFor (design_of m) x n (end_of m d)) node (stands d device.0)) in
      let there : back.0 ≡ h.xbar = is.names.crossbars back.0 h.xbar back.1.inner joins.outer back.1.inner_is joins.outer_is (sym back.1.names ∙ joins.partner_names) in
      (d, outer_found d h.xbar device (end ∙ ap Xbar there))

  pub device_found : (d : NodeId) (i f : ℕ) → IsDevice m d → end_of m d ≡ Face i f → device_node m i f ≡ Some d
  device_found d i f device e =
      only_found (λ n. not (is_host m n) && is_device_face i f (end_of m n)) (all_nodes m) d device.0 (and_true _ _ (ap not device.1) (face_itself i f (end_of m d) e))
      (λ n a passes.
      let both = and_both (not (is_host m n)) (is_device_face i f (end_of m n)) passes in
      let theirs = face_by (design_of m) n.xbar i f (node_of m n) (end_of m n) (device_face_gives i f (end_of m n) both.1) (stands n a) in
      let ours = face_by (design_of m) d.xbar i f (node_of m d) (end_of m d) e (stands d device.0) in
      let same = is.nodes.one_face n.xbar n.node d.xbar d.node i f (node_of m n) (node_of m d) (node_fact m n a) (node_fact m d device.0) theirs ours in
      same_node n d same.0 same.1)

  pub face_there : (d : NodeId) (i f : ℕ) → IsDevice m d → end_of m d ≡ Face i f → HasFace m i f
  face_there d i f device e =
      let there = sound.faces d.xbar d.node i f (subst (EndAt m d.xbar d.node) e (end_at d device.0)) in
      let block = there.2.0 in
      let at = there.2.1 in
      let known : block_of m i ≡ block =
      ap (λ k. get_or m.blocks k no_block) (get_or_is m.kinds i (length m.blocks) at.0 at.1) ∙ get_or_is m.blocks at.0 no_block block at.2 in
      record {
        face = there.1;
        instance_there = omega (arith, slice_get_within m.kinds i at.0 at.1, is.kinds.count);
        face_is = subst (λ (b : LaidBlock). slice_get b.faces f ≡ Some there.1) (sym known) there.2.2;
      }

  -- a node that stands for no crossbar has no `xbar`
  pub plain_node : (n : NodeId) → IsNode m n → IsPlain (end_of m n) → (node_of m n).xbar ≡ false
  plain_node n there plain = by (node_of m n).xbar refl where
    by : (b : Bool) → (node_of m n).xbar ≡ b → b ≡ false
    by false e = refl
    by true e =
        let joins = is.nodes.joined n.xbar n.node (node_of m n) (node_fact m n there) e in
        absurd (subst IsPlain (nested_by m is n.xbar joins.0 (node_of m n) (end_of m n) e joins.1 (stands n there)) plain)

-- what stands for a device interface is a device
pub end_device : (m : MergedTop) → IsMerged m → (x n i f : ℕ) → EndAt m x n (Face i f) → IsDevice m (node_id x n)
end_device m is x n i f at =
    let node = node_of_end m is x n (Face i f) at in
    let names = face_by (design_of m) x i f node.0 (Face i f) refl (is.ends.each x n node.0 (Face i f) node.1 at) in
    device_there m x n node.0 node.1 names.device
  where
    node_of_end : (m : MergedTop) → IsMerged m → (x n : ℕ) (e : NodeEnd) → EndAt m x n e → (node : NodeDesc) × NodeAt m x n node
    node_of_end m is x n e end =
        let xbar = item_at m.xbars x (omega (arith, is.ends.count, slice_get_within m.ends x end.0 end.1)) in
        let all = is.ends.counts x xbar.0 end.0 xbar.1 end.1 in
        let node = item_at xbar.0.nodes n (omega (arith, all, slice_get_within end.0.ends n e end.2)) in
        (node.0, record { crossbar = xbar.0; crossbar_is = xbar.1; is = node.1 })

-- an interface that is there is one of an instance
pub instance_of_face : (m : MergedTop) → IsMerged m → (i f : ℕ) (face : LaidFace) → FaceAt m i f face → i < length m.top.insts
instance_of_face m is i f face at = omega (arith, slice_get_within m.kinds i at.1.0 at.1.1, is.kinds.count)
