-- What instances and crossbars drive of the links of nodes, summed node by node.
use Rattle.std.proofs.Common.{Bool, eqb, false, find, length, not, refl, true, ℕ, ◌&&◌, ◌<◌, ◌∙◌, ◌≡◌}
use Rattle.std.proofs.lemmas.Option.{slice_get_within}
use Rattle.cg_desc.specs.Merged.{IsMerged}
use Rattle.cg_desc.specs.declared.top.MergedTop.{MergedTop}
use Rattle.cg_desc.specs.declared.top.NodeEnd.{NodeEnd}
use Rattle.cg_desc.specs.declared.top.NodeEnd.TheVariants.{Face, Host, Outside, Xbar}
use Rattle.cg_topspec.proofs.Built.{IsNode}
use Rattle.cg_topspec.proofs.Merges.{face_there}
use Rattle.cg_topspec.proofs.NodeEnds.{HasHostFace, all_once, host_face_there, one_face_node, one_host_node}
use Rattle.cg_topspec.proofs.Nodes.{and_both}
use Rattle.cg_topspec.proofs.TopConnections.{device_face_gives, host_face_gives}
use Rattle.cg_topspec.proofs.Totals.{count_both, count_if, if_any, total, total_found, total_if, total_nothing, total_number, total_same, total_swap, total_zero}
use Rattle.cg_topspec.specs.Top.{NodeId, all_nodes, block_of, counting, device_node, end_of, host_node, is_device_face, is_host, is_host_face}

-- whether a node's end is a host interface, a device interface, or a crossbar
abbrev pub is_any_host : NodeEnd → Bool
is_any_host (Host i f) = true
is_any_host _ = false

abbrev pub is_any_face : NodeEnd → Bool
is_any_face (Face i f) = true
is_any_face _ = false

abbrev pub is_any_crossbar : NodeEnd → Bool
is_any_crossbar (Xbar x) = true
is_any_crossbar _ = false

-- a sum over all interfaces of the instances, which have so many of them
abbrev pub total_faces : (ℕ → ℕ) → (ℕ → ℕ → ℕ) → ℕ → ℕ
total_faces many f n = total (λ i. total (f i) (counting 0 (many i))) (counting 0 n)

-- one of the interfaces alone
one_of_faces : (many : ℕ → ℕ) (n j g c : ℕ) → j < n → g < many j → total_faces many (λ i f. count_if (eqb j i && eqb g f) c) n ≡ c
one_of_faces many n j g c less low =
    total_same (λ i. total (λ f. count_if (eqb j i && eqb g f) c) (counting 0 (many i)))
    (λ i. count_if (eqb j i) (total (λ f. count_if (eqb g f) c) (counting 0 (many i)))) (counting 0 n)
    (λ i a. total_same (λ f. count_if (eqb j i && eqb g f) c) (λ f. count_if (eqb j i) (count_if (eqb g f) c)) (counting 0 (many i))
    (λ f b. count_both (eqb j i) (eqb g f) c)
    ∙ total_if (eqb j i) (λ f. count_if (eqb g f) c) (counting 0 (many i)))
    ∙ (total_number (λ i. total (λ f. count_if (eqb g f) c) (counting 0 (many i))) n j less ∙ total_number (λ f. c) (many j) g low)

none_of_faces : (many : ℕ → ℕ) (n : ℕ) → total_faces many (λ i f. 0) n ≡ 0
none_of_faces many n = total_nothing (λ i. total (λ f. 0) (counting 0 (many i))) (counting 0 n) (λ i a. total_zero (counting 0 (many i)))

-- sums over interfaces of what one of the nodes has are sums over nodes
by_nodes : (m : MergedTop) (many : ℕ → ℕ) (n : ℕ) (p : ℕ → ℕ → NodeId → Bool) (g : NodeId → ℕ)
    → ((i f : ℕ) (a b : NodeId) → IsNode m a → IsNode m b → p i f a ≡ true → p i f b ≡ true → a ≡ b)
    → total_faces many (λ i f. if_any g (find (p i f) (all_nodes m))) n ≡ total (λ k. total_faces many (λ i f. count_if (p i f k) (g k)) n) (all_nodes m)
by_nodes m many n p g one =
    total_same (λ i. total (λ f. if_any g (find (p i f) (all_nodes m))) (counting 0 (many i)))
    (λ i. total (λ k. total (λ f. count_if (p i f k) (g k)) (counting 0 (many i))) (all_nodes m)) (counting 0 n)
    (λ i a. total_same (λ f. if_any g (find (p i f) (all_nodes m))) (λ f. total (λ k. count_if (p i f k) (g k)) (all_nodes m)) (counting 0 (many i))
    (λ f b. total_found (p i f) g (all_nodes m) (all_once m) (λ x y c d s t. one i f x y c d s t))
    ∙ total_swap (λ f k. count_if (p i f k) (g k)) (counting 0 (many i)) (all_nodes m))
    ∙ total_swap (λ i k. total (λ f. count_if (p i f k) (g k)) (counting 0 (many i))) (counting 0 n) (all_nodes m)

module _ (m : MergedTop) (merged : IsMerged m) (g : NodeId → ℕ) where
  -- host interfaces
  host_of_one : (k : NodeId) → IsNode m k
      → total_faces (λ i. length (block_of m i).desc.hosts) (λ i f. count_if (is_host m k && is_host_face i f (end_of m k)) (g k)) (length m.top.insts)
      ≡ count_if (is_host m k && is_any_host (end_of m k)) (g k)
  host_of_one k there = by (is_host m k) (end_of m k) (host_face_there m merged k there) where
    by : (b : Bool) (e : NodeEnd) → ((i f : ℕ) → e ≡ Host i f → HasHostFace m i f)
        → total_faces (λ i. length (block_of m i).desc.hosts) (λ i f. count_if (b && is_host_face i f e) (g k)) (length m.top.insts)
        ≡ count_if (b && is_any_host e) (g k)
    by true (Host j c) has =
        let h = has j c refl in one_of_faces (λ i. length (block_of m i).desc.hosts) (length m.top.insts) j c (g k) h.instance_there h.below
    by true (Face j c) has = none_of_faces (λ i. length (block_of m i).desc.hosts) (length m.top.insts)
    by true (Xbar y) has = none_of_faces (λ i. length (block_of m i).desc.hosts) (length m.top.insts)
    by true Outside has = none_of_faces (λ i. length (block_of m i).desc.hosts) (length m.top.insts)
    by false e has = none_of_faces (λ i. length (block_of m i).desc.hosts) (length m.top.insts)

  pub hosts_by_nodes : total_faces (λ i. length (block_of m i).desc.hosts) (λ i f. if_any g (host_node m i f)) (length m.top.insts)
      ≡ total (λ k. count_if (is_host m k && is_any_host (end_of m k)) (g k)) (all_nodes m)
  hosts_by_nodes =
      by_nodes m (λ i. length (block_of m i).desc.hosts) (length m.top.insts) (λ i f k. is_host m k && is_host_face i f (end_of m k)) g
      (λ i f a b there_a there_b s t. one_host_node m merged a b there_a there_b i f (host_face_gives i f (end_of m a) (and_both _ _ s).1)
      (host_face_gives i f (end_of m b) (and_both _ _ t).1))
      ∙ total_same _ (λ k. count_if (is_host m k && is_any_host (end_of m k)) (g k)) (all_nodes m) (λ k there. host_of_one k there)

  -- device interfaces
  face_of_one : (k : NodeId) → IsNode m k
      → total_faces (λ i. length (block_of m i).faces) (λ i f. count_if (not (is_host m k) && is_device_face i f (end_of m k)) (g k)) (length m.top.insts)
      ≡ count_if (not (is_host m k) && is_any_face (end_of m k)) (g k)
  face_of_one k there = by (is_host m k) refl (end_of m k) refl where
    by : (b : Bool) → is_host m k ≡ b → (e : NodeEnd) → end_of m k ≡ e
        → total_faces (λ i. length (block_of m i).faces) (λ i f. count_if (not b && is_device_face i f e) (g k)) (length m.top.insts)
        ≡ count_if (not b && is_any_face e) (g k)
    by false h (Face j c) e =
        let has = face_there m merged k j c (there, h) e in
        one_of_faces (λ i. length (block_of m i).faces) (length m.top.insts) j c (g k) has.instance_there
        (slice_get_within (block_of m j).faces c has.face has.face_is)
    by false h (Host j c) e = none_of_faces (λ i. length (block_of m i).faces) (length m.top.insts)
    by false h (Xbar y) e = none_of_faces (λ i. length (block_of m i).faces) (length m.top.insts)
    by false h Outside e = none_of_faces (λ i. length (block_of m i).faces) (length m.top.insts)
    by true h e' e = none_of_faces (λ i. length (block_of m i).faces) (length m.top.insts)

  pub faces_by_nodes : total_faces (λ i. length (block_of m i).faces) (λ i f. if_any g (device_node m i f)) (length m.top.insts)
      ≡ total (λ k. count_if (not (is_host m k) && is_any_face (end_of m k)) (g k)) (all_nodes m)
  faces_by_nodes =
      by_nodes m (λ i. length (block_of m i).faces) (length m.top.insts) (λ i f k. not (is_host m k) && is_device_face i f (end_of m k)) g
      (λ i f a b there_a there_b s t. one_face_node m merged a b there_a there_b i f (device_face_gives i f (end_of m a) (and_both _ _ s).1)
      (device_face_gives i f (end_of m b) (and_both _ _ t).1))
      ∙ total_same _ (λ k. count_if (not (is_host m k) && is_any_face (end_of m k)) (g k)) (all_nodes m) (λ k there. face_of_one k there)
