-- The nodes of a top, and where they stand.
use Rattle.std.proofs.Common.{Bool, Some, ap, arith, false, inl, inr, length, map, refl, subst, true, ℕ, ◌&&◌, ◌<◌, ◌≡◌, ◌≤◌, ◌⊎◌}
use Rattle.std.proofs.lemmas.Bool.{cases_lt, eqb-true}
use Rattle.cg_desc.specs.declared.crossbar.XbarDesc.{XbarDesc}
use Rattle.cg_desc.specs.declared.top.MergedTop.{MergedTop}
use Rattle.cg_desc.specs.declared.top.NodeEnd.{NodeEnd}
use Rattle.cg_desc.specs.declared.top.NodeEnd.TheVariants.{Face, Host, Outside, Xbar}
use Rattle.cg_svspec.specs.Names.{Among}
use Rattle.cg_topspec.proofs.Built.{IsHost, IsNode}
use Rattle.cg_topspec.proofs.ListLemmas.{found_in, from_counting, from_each, from_map, in_counting, in_each, nth_past}
use Rattle.cg_topspec.specs.Top.{NodeId, counting, crossbar_of, end_of, inner_host, is_crossbar, is_host, node_id, nodes_in}

pub and_both : (a b : Bool) → (a && b) ≡ true → (a ≡ true) × (b ≡ true)
and_both true b e = (refl, e)
and_both false b e = cc

-- a node of crossbar x has its number
pub node_xbar : (m : MergedTop) (x : ℕ) (n : NodeId) → Among n (nodes_in m x) → n.xbar ≡ x
node_xbar m x n a = let h = from_map (node_id x) (counting 0 (length (crossbar_of m x).nodes)) n a in ap (λ (k : NodeId). k.xbar) h.2

-- and the crossbar is there
pub has_crossbar : (m : MergedTop) (x : ℕ) (n : NodeId) → Among n (nodes_in m x) → x < length m.xbars
has_crossbar m x n a = by (cases_lt x (length m.xbars)) where
  by : (x < length m.xbars) ⊎ (length m.xbars ≤ x) → x < length m.xbars
  by (inl h) = h
  by (inr h) = absurd (subst (λ (c : XbarDesc). Among n (map (node_id x) (counting 0 (length c.nodes)))) (nth_past m.xbars x _ h) a)

pub node_of_all : (m : MergedTop) (x : ℕ) (n : NodeId) → Among n (nodes_in m x) → IsNode m n
node_of_all m x n a = in_each (nodes_in m) (counting 0 (length m.xbars)) x n (in_counting 0 (length m.xbars) x (omega arith) (omega (arith, has_crossbar m x n a))) a

pub node_in_range : (m : MergedTop) (n : NodeId) → IsNode m n → n.xbar < length m.xbars
node_in_range m n a =
    let h = from_each (nodes_in m) (counting 0 (length m.xbars)) n a in
    let at = from_counting 0 (length m.xbars) h.0 h.1 in
    let is = node_xbar m h.0 n h.2 in omega (arith, at.1, is)

pub is_crossbar_gives : (x : ℕ) (e : NodeEnd) → is_crossbar x e ≡ true → e ≡ Xbar x
is_crossbar_gives x (Xbar y) h = ap Xbar (eqb-true _ _ h)
is_crossbar_gives x (Face i f) h = cc
is_crossbar_gives x (Host i f) h = cc
is_crossbar_gives x Outside h = cc

-- the host node of crossbar y that stands for x
pub inner_host_is : (m : MergedTop) (x y : ℕ) (k : NodeId) → inner_host m x y ≡ Some k → IsHost m k × (k.xbar ≡ y) × (end_of m k ≡ Xbar x)
inner_host_is m x y k e =
    let h = found_in (λ n. is_host m n && is_crossbar x (end_of m n)) (nodes_in m y) k e in
    let t = and_both (is_host m k) (is_crossbar x (end_of m k)) h.1 in
    ((node_of_all m y k h.0, t.0), node_xbar m y k h.0, is_crossbar_gives x (end_of m k) t.1)
