-- What nodes stand for, from either side: each interface has one node at most, and nodes that join two crossbars come in pairs.
use Rattle.std.proofs.Common.{List, None, Option, Some, arith, length, refl, subst, sym, ℕ, ◌<◌, ◌∙◌, ◌≡◌}
use Rattle.std.proofs.lemmas.List.{length-map}
use Rattle.std.proofs.lemmas.Option.{slice_get_within}
use Rattle.cg_desc.proofs.Blocks.{one_block}
use Rattle.cg_desc.proofs.Numbered.{same_item}
use Rattle.cg_desc.specs.Ends.{Means, NamesHost, StandsFor, host_interfaces}
use Rattle.cg_desc.specs.Merged.{EndAt, IsMerged, design_of, of_top}
use Rattle.cg_desc.specs.Top.{Design}
use Rattle.cg_desc.specs.declared.block.HostFace.{HostFace}
use Rattle.cg_desc.specs.declared.block.LaidBlock.{LaidBlock}
use Rattle.cg_desc.specs.declared.crossbar.NodeDesc.{NodeDesc}
use Rattle.cg_desc.specs.declared.top.MergedTop.{MergedTop}
use Rattle.cg_desc.specs.declared.top.NodeEnd.{NodeEnd}
use Rattle.cg_desc.specs.declared.top.NodeEnd.TheVariants.{Face, Host, Outside, Xbar}
use Rattle.cg_space.proofs.Merged.{is_sound}
use Rattle.cg_topspec.proofs.ApartNames.{NoneTwice, counting_once}
use Rattle.cg_topspec.proofs.Behind.{block_among}
use Rattle.cg_topspec.proofs.Built.{IsDevice, IsHost, IsNode}
use Rattle.cg_topspec.proofs.Merges.{end_at, face_by, same_node, stands}
use Rattle.cg_topspec.proofs.NoClash.{nodes_once}
use Rattle.cg_topspec.proofs.Nodes.{node_xbar}
use Rattle.cg_topspec.proofs.Relations.{end_is, host_there, node_fact}
use Rattle.cg_topspec.proofs.Totals.{total, total_flat, total_halves, total_same, twice_flat}
use Rattle.cg_topspec.specs.Top.{NodeId, all_nodes, block_of, crossbar_numbers, end_of, is_host, node_id, node_of, nodes_in, ordered, ordered_in}

names_host : (d : Design) (x i f : ℕ) (node : NodeDesc) (e : NodeEnd) → e ≡ Host i f → StandsFor d x node e → NamesHost d node i f
names_host d x i f node (Host j g) e (StandsFor.host_interface _ _ names) =
    let a : j ≡ i = cc in
    let b : g ≡ f = cc in
    subst (λ k. NamesHost d node i k) b (subst (λ k. NamesHost d node k g) a names)
names_host d x i f node (Face j g) e s = absurd cc
names_host d x i f node (Xbar y) e s = absurd cc
names_host d x i f node Outside e s = absurd cc

-- the number of an interface that is meant is one of the instance's
pub meant_below : (instance name : List ℕ) (faces : List (Option (List ℕ))) (f : ℕ) → Means instance faces name f → f < length faces
meant_below instance name faces f (Means.by_name g interface is) = slice_get_within faces g (Some interface) is
meant_below instance name faces f (Means.without_name g is) = slice_get_within faces g None is
meant_below instance name faces f (Means.only_one one) = omega (arith, one)

-- a host interface of an instance is there
pub record HasHostFace (m : MergedTop) (i f : ℕ) : Type 0 where
  pub instance_there : i < length m.top.insts
  pub below : f < length (block_of m i).desc.hosts

module _ (m : MergedTop) (merged : IsMerged m) where
  pub host_face_there : (n : NodeId) → IsNode m n → (i f : ℕ) → end_of m n ≡ Host i f → HasHostFace m i f
  host_face_there n there i f e =
      let names = names_host (design_of m) n.xbar i f (node_of m n) (end_of m n) e (stands m merged n there) in
      let less : i < length m.top.insts = slice_get_within m.top.insts i names.inst names.is.instance in
      let at = block_among m merged i less in
      let known = merged.kinds.each i at.0 names.inst names.is.instance at.1 in
      let same : known.0 ≡ names.block =
      (one_block (design_of m) merged.files names.inst.kind at.0 names.is.number known.0 names.block known.1 names.is.block_is).1 in
      let this : block_of m i ≡ known.0 = same_item m.blocks at.0 (block_of m i) known.0 at.2 known.1.is in
      let low : f < length names.block.desc.hosts =
      omega (
        arith,
        meant_below names.inst.name (node_of m n).name (host_interfaces names.block) f names.means,
        length-map names.block.desc.hosts
            (λ (h : HostFace). h.name),
      ) in
      record { instance_there = less; below = subst (λ (b : LaidBlock). f < length b.desc.hosts) (sym (this ∙ same)) low }

  pub one_host_node : (a b : NodeId) → IsNode m a → IsNode m b → (i f : ℕ) → end_of m a ≡ Host i f → end_of m b ≡ Host i f → a ≡ b
  one_host_node a b there_a there_b i f e g =
      let names_a = names_host (design_of m) a.xbar i f (node_of m a) (end_of m a) e (stands m merged a there_a) in
      let names_b = names_host (design_of m) b.xbar i f (node_of m b) (end_of m b) g (stands m merged b there_b) in
      let same = merged.nodes.one_host a.xbar a.node b.xbar b.node i f (node_of m a) (node_of m b) (node_fact m a there_a)
      (node_fact m b there_b) names_a names_b in
      same_node a b same.0 same.1

  pub one_face_node : (a b : NodeId) → IsNode m a → IsNode m b → (i f : ℕ) → end_of m a ≡ Face i f → end_of m b ≡ Face i f → a ≡ b
  one_face_node a b there_a there_b i f e g =
      let names_a = face_by (design_of m) a.xbar i f (node_of m a) (end_of m a) e (stands m merged a there_a) in
      let names_b = face_by (design_of m) b.xbar i f (node_of m b) (end_of m b) g (stands m merged b there_b) in
      let same = merged.nodes.one_face a.xbar a.node b.xbar b.node i f (node_of m a) (node_of m b) (node_fact m a there_a)
      (node_fact m b there_b) names_a names_b in
      same_node a b same.0 same.1

  -- the host in the crossbar that a device stands for
  pub partner_of : (d : NodeId) (y : ℕ) → IsDevice m d → end_of m d ≡ Xbar y → (k : NodeId) × IsHost m k × (k.xbar ≡ y) × (end_of m k ≡ Xbar d.xbar)
  partner_of d y device e =
      let found = (is_sound m (of_top merged)).inner d.xbar d.node y
      ((node_of m d, node_fact m d device.0, device.1), subst (EndAt m d.xbar d.node) e (end_at m merged d device.0)) in
      (node_id y found.0, host_there m y found.0 found.1 found.2.is found.2.is_host, refl, end_is m y found.0 (Xbar d.xbar) found.2.stands)

-- ---- all nodes, each once

pub all_once : (m : MergedTop) → NoneTwice (all_nodes m)
all_once m =
    twice_flat (nodes_in m) (crossbar_numbers m) (counting_once 0 (length m.xbars)) (λ x a. nodes_once m x)
    (λ x y n i j a b. sym (node_xbar m x n a) ∙ node_xbar m y n b)

-- a sum over the nodes as they stand in the text is one over the nodes as they are numbered
pub total_ordered : (m : MergedTop) (f : NodeId → ℕ) → total f (ordered m) ≡ total f (all_nodes m)
total_ordered m f =
    total_flat f (ordered_in m) (crossbar_numbers m)
    ∙ (total_same (λ x. total f (ordered_in m x)) (λ x. total f (nodes_in m x)) (crossbar_numbers m) (λ x a. total_halves (is_host m) f (nodes_in m x))
    ∙ sym (total_flat f (nodes_in m) (crossbar_numbers m)))
