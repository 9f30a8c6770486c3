-- Nodes, ends and blocks by their numbers, and as facts.
use Rattle.std.proofs.Common.{List, Some, [], ap, arith, false, get_or, length, refl, slice_get, subst, suc, sym, true, zero, ℕ, ◌<◌, ◌∙◌, ◌∷◌, ◌≡◌}
use Rattle.std.proofs.lemmas.Option.{slice_get_within}
use Rattle.cg_busspec.specs.Crossbar.{node_at}
use Rattle.cg_desc.specs.Ends.{CrossbarIs}
use Rattle.cg_desc.specs.Merged.{EndAt, NodeAt, design_of}
use Rattle.cg_desc.specs.declared.crossbar.NodeDesc.{NodeDesc}
use Rattle.cg_desc.specs.declared.crossbar.XbarDesc.{XbarDesc}
use Rattle.cg_desc.specs.declared.top.MergedTop.{MergedTop}
use Rattle.cg_desc.specs.declared.top.NodeEnd.{NodeEnd}
use Rattle.cg_desc.specs.declared.top.NodeEnd.TheVariants.{Outside}
use Rattle.cg_desc.specs.declared.top.XbarEnds.{XbarEnds}
use Rattle.cg_topspec.proofs.Built.{IsDevice, IsHost, IsNode}
use Rattle.cg_topspec.proofs.ListLemmas.{from_counting, from_each, from_map, in_counting, in_map}
use Rattle.cg_topspec.proofs.Nodes.{node_in_range, node_of_all}
use Rattle.cg_topspec.specs.Top.{NodeId, counting, crossbar_of, end_of, node_id, node_of, nodes_in}

pub get_or_is : {A : Type 0} (xs : List A) (i : ℕ) (d x : A) → slice_get xs i ≡ Some x → get_or xs i d ≡ x
get_or_is [] i d x e = cc
get_or_is (y ∷ xs) zero d x e = cc
get_or_is (y ∷ xs) (suc i) d x e = get_or_is xs i d x e

pub node_at_is : (ns : List NodeDesc) (i : ℕ) (n : NodeDesc) → slice_get ns i ≡ Some n → node_at ns i ≡ n
node_at_is [] i n e = cc
node_at_is (y ∷ ns) zero n e = cc
node_at_is (y ∷ ns) (suc i) n e = node_at_is ns i n e

-- ---- from facts

pub crossbar_is : (m : MergedTop) (x : ℕ) (xbar : XbarDesc) → CrossbarIs (design_of m) x xbar → crossbar_of m x ≡ xbar
crossbar_is m x xbar e = get_or_is m.xbars x _ xbar e

pub node_is : (m : MergedTop) (x n : ℕ) (node : NodeDesc) → NodeAt m x n node → node_of m (node_id x n) ≡ node
node_is m x n node at = ap (λ (c : XbarDesc). node_at c.nodes n) (crossbar_is m x at.crossbar at.crossbar_is) ∙ node_at_is at.crossbar.nodes n node at.is

pub end_is : (m : MergedTop) (x n : ℕ) (e : NodeEnd) → EndAt m x n e → end_of m (node_id x n) ≡ e
end_is m x n e at = ap (λ (c : XbarEnds). get_or c.ends n Outside) (get_or_is m.ends x _ at.0 at.1) ∙ get_or_is at.0.ends n Outside e at.2

pub node_there : (m : MergedTop) (x n : ℕ) (node : NodeDesc) → NodeAt m x n node → IsNode m (node_id x n)
node_there m x n node at =
    let xbar = crossbar_is m x at.crossbar at.crossbar_is in
    let within : n < length (crossbar_of m x).nodes = subst (λ (c : XbarDesc). n < length c.nodes) (sym xbar) (slice_get_within at.crossbar.nodes n node at.is) in
    node_of_all m x (node_id x n)
    (in_map (node_id x) (counting 0 (length (crossbar_of m x).nodes)) n (in_counting 0 (length (crossbar_of m x).nodes) n (omega arith) (omega (arith, within))))

pub host_there : (m : MergedTop) (x n : ℕ) (node : NodeDesc) → NodeAt m x n node → node.host ≡ true → IsHost m (node_id x n)
host_there m x n node at host = (node_there m x n node at, ap (λ (d : NodeDesc). d.host) (node_is m x n node at) ∙ host)

pub device_there : (m : MergedTop) (x n : ℕ) (node : NodeDesc) → NodeAt m x n node → node.host ≡ false → IsDevice m (node_id x n)
device_there m x n node at device = (node_there m x n node at, ap (λ (d : NodeDesc). d.host) (node_is m x n node at) ∙ device)

-- ---- to facts

-- a number below the length has an item
pub item_of : {A : Type 0} (xs : List A) (i : ℕ) (d : A) → i < length xs → slice_get xs i ≡ Some (get_or xs i d)
item_of [] i d h = absurd (omega (arith, h))
item_of (x ∷ xs) zero d h = refl
item_of (x ∷ xs) (suc i) d h = item_of xs i d (omega (arith, h))

node_item : (ns : List NodeDesc) (i : ℕ) → i < length ns → slice_get ns i ≡ Some (node_at ns i)
node_item [] i h = absurd (omega (arith, h))
node_item (n ∷ ns) zero h = refl
node_item (n ∷ ns) (suc i) h = node_item ns i (omega (arith, h))

pub number_within : (m : MergedTop) (n : NodeId) → IsNode m n → n.node < length (crossbar_of m n.xbar).nodes
number_within m n a =
    let h = from_each (nodes_in m) (counting 0 (length m.xbars)) n a in
    let k = from_map (node_id h.0) (counting 0 (length (crossbar_of m h.0).nodes)) n h.2 in
    let r = from_counting 0 (length (crossbar_of m h.0).nodes) k.0 k.1 in
    subst (λ (i : NodeId). i.node < length (crossbar_of m i.xbar).nodes) (sym k.2) (omega (arith, r.1))

pub node_fact : (m : MergedTop) (n : NodeId) → IsNode m n → NodeAt m n.xbar n.node (node_of m n)
node_fact m n a = record {
  crossbar = crossbar_of m n.xbar;
  crossbar_is = item_of m.xbars n.xbar _ (node_in_range m n a);
  is = node_item (crossbar_of m n.xbar).nodes n.node (number_within m n a);
}

pub end_fact : (m : MergedTop) (n : NodeId) → IsNode m n → length m.ends ≡ length m.xbars
    → ((x : ℕ) (xbar : XbarDesc) (ends : XbarEnds) → CrossbarIs (design_of m) x xbar → slice_get m.ends x ≡ Some ends → length ends.ends ≡ length xbar.nodes)
    → EndAt m n.xbar n.node (end_of m n)
end_fact m n a count counts =
    let at = node_fact m n a in
    let less : n.xbar < length m.ends = omega (arith, slice_get_within m.xbars n.xbar _ at.crossbar_is, count) in
    let ends = item_of m.ends n.xbar (record { ends = [] }) less in
    let all = counts n.xbar at.crossbar (get_or m.ends n.xbar (record { ends = [] })) at.crossbar_is ends in
    (get_or m.ends n.xbar (record { ends = [] }), ends, item_of (get_or m.ends n.xbar (record { ends = [] })).ends n.node Outside (omega (arith, all, slice_get_within at.crossbar.nodes n.node _ at.is)))
