-- A valid merged top is sound: each number in it names a thing that is there.
use Rattle.std.proofs.Common.{◌≡◌, ℕ, zero, suc, ◌<◌, ◌≤◌, ◌^◌, Bool, not, true, false, List, [], ◌∷◌, Option, Some, None, length, map, slice_get, refl, sym, ap, ◌∙◌, subst, arith}
use Rattle.std.proofs.lemmas.Bool.{false≢true}
use Rattle.std.proofs.lemmas.Option.{slice_get_within}
use Rattle.cg_svspec.specs.Names.{Among}
use Rattle.cg_desc.specs.Crossbar.{IsValidCrossbar}
use Rattle.cg_desc.specs.Ends.{Joins, Means, NamesFace, StandsFor, device_interfaces}
use Rattle.cg_desc.specs.Laid.{IsLaid}
use Rattle.cg_desc.specs.Merged.{EndAt, FaceAt, IsMerged, IsValidLaidBlock, IsValidMerged, NodeAt, alone, all_outside, design_of}
use Rattle.cg_desc.specs.Reach.{IsInnerHost}
use Rattle.cg_desc.specs.declared.block.LaidBlock.{LaidBlock}
use Rattle.cg_desc.specs.declared.block.LaidFace.{LaidFace}
use Rattle.cg_desc.specs.declared.crossbar.NodeDesc.{NodeDesc}
use Rattle.cg_desc.specs.declared.crossbar.XbarDesc.{XbarDesc}
use Rattle.cg_desc.specs.declared.top.MergedTop.{MergedTop}
use Rattle.cg_desc.specs.declared.top.NodeEnd.{NodeEnd}
use Rattle.cg_desc.specs.declared.top.NodeEnd.TheVariants.{Face, Host, Xbar, Outside}
use Rattle.cg_desc.specs.declared.top.XbarEnds.{XbarEnds}
use Rattle.cg_desc.proofs.Blocks.{one_block}
use Rattle.cg_desc.proofs.FoundBases.{base_once}
use Rattle.cg_desc.proofs.Numbered.{item_at, item_among, item_number, same_item}
use Rattle.cg_space.specs.Inner.Sound.{HasNode, IsNestedAt, IsSound}
use Rattle.cg_space.proofs.Sound.{xbar_within}
use Rattle.cg_space.proofs.Tabling.{all_at}

length_map : {A B : Type 0} (f : A → B) (xs : List A) → length (map f xs) ≡ length xs
length_map f [] = refl
length_map f (x ∷ xs) = ap suc (length_map f xs)

-- ---- a top with its files

few_crossbars : (m : MergedTop) → IsMerged m → length m.xbars ≤ 16
few_crossbars m is =
    let same : length m.xbars ≡ length m.top.xbars =
    sym (length_map (λ (x : XbarDesc). x.name) m.xbars) ∙ ap length is.files.crossbars ∙ length_map (λ u. u.name) m.top.xbars in
    omega (arith, same, is.top.few_crossbars)

-- what a node stands for
stands : (m : MergedTop) → IsMerged m → (x n : ℕ) (node : NodeDesc) (e : NodeEnd) → NodeAt m x n node → EndAt m x n e → StandsFor (design_of m) x node e
stands m is x n node e at end = is.ends.each x n node e at end

-- a node has an end
end_there : (m : MergedTop) → IsMerged m → (x n : ℕ) (node : NodeDesc) → NodeAt m x n node → (e : NodeEnd) × EndAt m x n e
end_there m is x n node at =
    let ends = item_at m.ends x (omega (arith, is.ends.count, xbar_within m x n (node, at))) in
    let all = is.ends.counts x at.crossbar ends.0 at.crossbar_is ends.1 in
    let end = item_at ends.0.ends n (omega (arith, all, slice_get_within at.crossbar.nodes n node at.is)) in
    (end.0, (ends.0, ends.1, end.1))

-- what has an end is a node
node_there : (m : MergedTop) → IsMerged m → (x n : ℕ) (e : NodeEnd) → EndAt m x n e → HasNode m x n
node_there m is x n e end =
    let xbar = item_at m.xbars x (omega (arith, is.ends.count, slice_get_within m.ends x end.0 end.1)) in
    let all = is.ends.counts x xbar.0 end.0 xbar.1 end.1 in
    let node = item_at xbar.0.nodes n (omega (arith, all, slice_get_within end.0.ends n e end.2)) in
    (node.0, record { crossbar = xbar.0; crossbar_is = xbar.1; is = node.1 })

-- the number of an interface that is meant is one of the block's
means_within : (instance name : List ℕ) (faces : List (Option (List ℕ))) (f : ℕ) → Means instance faces name f → f < length faces
means_within instance name faces f (Means.by_name g interface is) = slice_get_within faces g (Some interface) is
means_within instance name faces f (Means.without_name g is) = slice_get_within faces g None is
means_within instance name faces f (Means.only_one one) = omega (arith, one)

face_size : (m : MergedTop) → IsMerged m → (k : ℕ) (block : LaidBlock) (f : ℕ) (face : LaidFace) → slice_get m.blocks k ≡ Some block → slice_get block.faces f ≡ Some face → face.size ≤ 2 ^ 24
face_size m is k block f face at there =
    (all_at IsLaid block.faces f face (all_at IsValidLaidBlock m.blocks k block is.blocks at).laid there).few_bytes

-- an interface that a node names is there
named_face : (m : MergedTop) → IsMerged m → (node : NodeDesc) (i f : ℕ) → NamesFace (design_of m) node i f → (face : LaidFace) × FaceAt m i f face × (face.size ≤ 2 ^ 24)
named_face m is node i f names =
    let kind = item_at m.kinds i (omega (arith, is.kinds.count, slice_get_within m.top.insts i names.inst names.is.instance)) in
    let known = is.kinds.each i kind.0 names.inst names.is.instance kind.1 in
    let same : known.0 ≡ names.block = (one_block (design_of m) is.files names.inst.kind kind.0 names.is.number known.0 names.block known.1 names.is.block_is).1 in
    let there : f < length names.block.faces = omega (arith, means_within names.inst.name node.name (device_interfaces names.block) f names.means, length_map (λ (g : LaidFace). g.name) names.block.faces) in
    let face = item_at known.0.faces f (subst (λ (b : LaidBlock). f < length b.faces) (sym same) there) in
    (face.0, (known.0, (kind.0, kind.1, known.1.is), face.1), face_size m is kind.0 known.0 f face.0 known.1.is face.1)

face_by : (m : MergedTop) → IsMerged m → (x n i f : ℕ) (node : NodeDesc) (e : NodeEnd) → e ≡ Face i f → StandsFor (design_of m) x node e
    → (face : LaidFace) × FaceAt m i f face × (face.size ≤ 2 ^ 24)
face_by m is x n i f node (Face j g) e (StandsFor.device_interface _ _ names) =
    let a : j ≡ i = cc in
    let b : g ≡ f = cc in
    named_face m is node i f (subst (λ k. NamesFace (design_of m) node i k) b (subst (λ k. NamesFace (design_of m) node k g) a names))
face_by m is x n i f node (Host j g) e s = absurd cc
face_by m is x n i f node (Xbar y) e s = absurd cc
face_by m is x n i f node Outside e s = absurd cc

host_by : (d : MergedTop) (x i f : ℕ) (node : NodeDesc) (e : NodeEnd) → e ≡ Host i f → StandsFor (design_of d) x node e → node.host ≡ true
host_by d x i f node (Host j g) e (StandsFor.host_interface _ _ names) = names.host
host_by d x i f node (Face j g) e s = absurd cc
host_by d x i f node (Xbar y) e s = absurd cc
host_by d x i f node Outside e s = absurd cc

-- a node that stands for a crossbar joins it
joins_by : (d : MergedTop) (x y : ℕ) (node : NodeDesc) (e : NodeEnd) → e ≡ Xbar y → StandsFor (design_of d) x node e → Joins (design_of d) x node y
joins_by d x y node (Xbar z) e (StandsFor.crossbar _ joins) = let a : z ≡ y = cc in subst (λ k. Joins (design_of d) x node k) a joins
joins_by d x y node (Face j g) e s = absurd cc
joins_by d x y node (Host j g) e s = absurd cc
joins_by d x y node Outside e s = absurd cc

-- a node with `xbar` that joins a crossbar stands for it
stands_back : (m : MergedTop) → IsMerged m → (y x : ℕ) (partner : NodeDesc) (e : NodeEnd) → partner.xbar ≡ true → Joins (design_of m) y partner x → StandsFor (design_of m) y partner e → e ≡ Xbar x
stands_back m is y x partner (Face i f) nested joins (StandsFor.device_interface _ _ names) = absurd (false≢true (sym names.plain ∙ nested))
stands_back m is y x partner (Host i f) nested joins (StandsFor.host_interface _ _ names) = absurd (false≢true (sym names.plain ∙ nested))
stands_back m is y x partner (Xbar z) nested joins (StandsFor.crossbar _ other) =
    ap Xbar (is.names.crossbars z x other.inner joins.inner other.inner_is joins.inner_is (sym other.names ∙ joins.names))
stands_back m is y x partner Outside nested joins (StandsFor.outside _ _ none) = absurd (none x joins)

not_not : (a b : Bool) → a ≡ not b → b ≡ not a
not_not true false h = refl
not_not false true h = refl
not_not true true h = absurd (false≢true (sym h))
not_not false false h = absurd (false≢true h)

not_false : (a b : Bool) → a ≡ not b → b ≡ false → a ≡ true
not_false a true h k = absurd (false≢true (sym k))
not_false a false h k = h

-- the partner of a nested device
inner_there : (m : MergedTop) → IsMerged m → (x n y : ℕ) → IsNestedAt m x n y → (k : ℕ) × (host : NodeDesc) × IsInnerHost m x y k host
inner_there m is x n y nested =
    let node = nested.0.0 in
    let at = nested.0.1 in
    let joins = joins_by m x y node (Xbar y) refl (stands m is x n node (Xbar y) at nested.1) in
    let number = item_number joins.inner.nodes joins.partner joins.partner_there in
    let there : NodeAt m y number.0 joins.partner = record { crossbar = joins.inner; crossbar_is = joins.inner_is; is = number.1 } in
    let end = end_there m is y number.0 joins.partner there in
    let back : Joins (design_of m) y joins.partner x = record {
      nested = joins.partner_nested;
      outer = joins.inner;
      outer_is = joins.inner_is;
      inner = joins.outer;
      inner_is = joins.outer_is;
      names = joins.partner_names;
      partner = node;
      partner_there = node_among joins.outer joins.outer_is;
      partner_nested = joins.nested;
      partner_faces = not_not joins.partner.host node.host joins.partner_faces;
      partner_names = joins.names;
    } in
    let is_x : end.0 ≡ Xbar x = stands_back m is y x joins.partner end.0 joins.partner_nested back (stands m is y number.0 joins.partner end.0 there end.1) in (
      number.0,
      joins.partner,
      record {
        is = there;
        is_host = not_false joins.partner.host node.host joins.partner_faces nested.0.2;
        stands = subst (λ (e : NodeEnd). EndAt m y number.0 e) is_x end.1;
      },
    )
  where
    node_among : (outer : XbarDesc) → slice_get m.xbars x ≡ Some outer → Among nested.0.0 outer.nodes
    node_among outer is_outer =
        let same : nested.0.1.crossbar ≡ outer = same_item m.xbars x nested.0.1.crossbar outer nested.0.1.crossbar_is is_outer in
        subst (λ (c : XbarDesc). Among nested.0.0 c.nodes) same (item_among nested.0.1.crossbar.nodes n nested.0.0 nested.0.1.is)

one_inner : (m : MergedTop) → IsMerged m → (x y k l : ℕ) (a b : NodeDesc) → IsInnerHost m x y k a → IsInnerHost m x y l b → k ≡ l
one_inner m is x y k l a b p q =
    let first = joins_by m y x a (Xbar x) refl (stands m is y k a (Xbar x) p.is p.stands) in
    let second = joins_by m y x b (Xbar x) refl (stands m is y l b (Xbar x) q.is q.stands) in
    let named : a.name ≡ b.name = first.names ∙ ap (λ (c : XbarDesc). c.name) (same_item m.xbars x first.inner second.inner first.inner_is second.inner_is) ∙ sym second.names in
    let crossbar : q.is.crossbar ≡ p.is.crossbar = same_item m.xbars y q.is.crossbar p.is.crossbar q.is.crossbar_is p.is.crossbar_is in
    (all_at IsValidCrossbar m.xbars y p.is.crossbar is.crossbars p.is.crossbar_is).names_differ k l a b p.is.is
    (subst (λ (c : XbarDesc). slice_get c.nodes l ≡ Some b) crossbar q.is.is) named

merged_is_sound : (m : MergedTop) → IsMerged m → IsSound m
merged_is_sound m is = record {
  few = few_crossbars m is;
  crossbars = is.crossbars;
  count = is.ends.count;
  counts = λ x xbar ends at there. is.ends.counts x xbar ends at there;
  faces = λ x n i f end.
      let node = node_there m is x n (Face i f) end in
      let face = face_by m is x n i f node.0 (Face i f) refl (stands m is x n node.0 (Face i f) node.1 end) in
      (is, face.0, face.1, face.2);
  hosts = λ x n i f end device.
      false≢true (sym device.2 ∙ host_by m x i f device.0 (Host i f) refl (stands m is x n device.0 (Host i f) device.1 end));
  inner = λ x n y nested. inner_there m is x n y nested;
  one_inner = λ x y k l a b p q. one_inner m is x y k l a b p q;
  one_base = λ i f a b p q. base_once m is i f a b p q;
}

-- ---- a crossbar alone

outside_only : (nodes : List NodeDesc) (n : ℕ) (e : NodeEnd) → slice_get (all_outside nodes) n ≡ Some e → e ≡ Outside
outside_only [] n e h = absurd cc
outside_only (x ∷ nodes) zero e h = cc
outside_only (x ∷ nodes) (suc n) e h = outside_only nodes n e h

alone_end : (x : XbarDesc) (z n : ℕ) (e : NodeEnd) → EndAt (alone x) z n e → e ≡ Outside
alone_end x zero n e end =
    let same : record { ends = all_outside x.nodes } ≡ end.0 = (let h = end.1 in cc) in
    outside_only x.nodes n e (subst (λ (ends : XbarEnds). slice_get ends.ends n ≡ Some e) (sym same) end.2)
alone_end x (suc z) n e end = absurd (let h = end.1 in cc)

alone_counts : (x : XbarDesc) (z : ℕ) (xbar : XbarDesc) (ends : XbarEnds) → slice_get (x ∷ []) z ≡ Some xbar
    → slice_get ((alone x).ends) z ≡ Some ends → length ends.ends ≡ length xbar.nodes
alone_counts x zero xbar ends p q =
    let a : x ≡ xbar = cc in
    let b : record { ends = all_outside x.nodes } ≡ ends = cc in
    rw (sym a, sym b) (length_map (λ (n : NodeDesc). Outside) x.nodes)
alone_counts x (suc z) xbar ends p q = absurd cc

alone_is_sound : (x : XbarDesc) → IsValidCrossbar x → IsSound (alone x)
alone_is_sound x valid = record {
  few = omega arith;
  crossbars = (valid, tt);
  count = refl;
  counts = λ z xbar ends at there. alone_counts x z xbar ends at there;
  faces = λ z n i f end. absurd (let h : Face i f ≡ Outside = alone_end x z n (Face i f) end in cc);
  hosts = λ z n i f end device. let h : Host i f ≡ Outside = alone_end x z n (Host i f) end in cc;
  inner = λ z n y nested. absurd (let h : Xbar y ≡ Outside = alone_end x z n (Xbar y) nested.1 in cc);
  one_inner = λ z y k l a b p q. absurd (let h : Xbar z ≡ Outside = alone_end x y k (Xbar z) p.stands in cc);
  one_base = λ i f a b p q. absurd (let h = p.is.instance in cc);
}

pub is_sound : (m : MergedTop) → IsValidMerged m → IsSound m
is_sound m (IsValidMerged.of_top is) = merged_is_sound m is
is_sound m (IsValidMerged.of_crossbar x valid e) = rw e (alone_is_sound x valid)
