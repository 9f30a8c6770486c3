-- The crossbars of a merged top have one list of ranges.
use Rattle.std.proofs.Common.{Bool, List, Some, [], false, length, refl, slice_get, subst, suc, sym, true, ℕ, ◌<◌, ◌∙◌, ◌∷◌, ◌≡◌}
use Rattle.std.proofs.lemmas.Option.{slice_get_within}
use Rattle.cg_desc.proofs.Numbered.{item_at}
use Rattle.cg_desc.specs.Ends.{CrossbarIs}
use Rattle.cg_desc.specs.Merged.{IsMerged, NodeAt, design_of, of_top}
use Rattle.cg_desc.specs.declared.crossbar.NodeDesc.{NodeDesc}
use Rattle.cg_desc.specs.declared.crossbar.NodeRanges.{NodeRanges}
use Rattle.cg_desc.specs.declared.crossbar.XbarDesc.{XbarDesc}
use Rattle.cg_desc.specs.declared.top.MergedTop.{MergedTop}
use Rattle.cg_space.proofs.Merged.{is_sound}
use Rattle.cg_space.proofs.OneList.{has_once}
use Rattle.cg_space.specs.Answers.{AreNodeRanges}
use Rattle.cg_chip.specs.Chip.{AreRangesOfAll}
use Rattle.cg_chip.specs.declared.chip.XbarRanges.{XbarRanges}

-- lists of one length, of which the items at each place are the same, are the same
pub same_lists : {A : Type 0} (xs ys : List A) → length xs ≡ length ys → ((i : ℕ) (x y : A) → slice_get xs i ≡ Some x → slice_get ys i ≡ Some y → x ≡ y) → xs ≡ ys
same_lists [] [] count each = refl
same_lists [] (y ∷ ys) count each = absurd (let bad : 0 ≡ suc (length ys) = count in cc)
same_lists (x ∷ xs) [] count each = absurd (let bad : suc (length xs) ≡ 0 = count in cc)
same_lists (x ∷ xs) (y ∷ ys) count each =
    λ i. each 0 x y refl refl i ∷ same_lists xs ys (one_less (length xs) (length ys) count) (λ k a b is other. each (suc k) a b is other) i
  where
    one_less : (a b : ℕ) → suc a ≡ suc b → a ≡ b
    one_less a b e = cc

module _ (m : MergedTop) (merged : IsMerged m) where
  -- an entry of a crossbar, by whether its node is a host
  one_entry : (x n : ℕ) (a b : List NodeRanges) → AreNodeRanges m x a → AreNodeRanges m x b → (node : NodeDesc) → NodeAt m x n node
      → (host : Bool) → node.host ≡ host → (p q : NodeRanges) → slice_get a n ≡ Some p → slice_get b n ≡ Some q → p.ranges ≡ q.ranges
  one_entry x n a b first second node at true host p q is other = first.hosts n node p at host is ∙ sym (second.hosts n node q at host other)
  one_entry x n a b first second node at false device p q is other =
      has_once m (is_sound m (of_top merged)) x n p.ranges q.ranges (first.devices n node p at device is) (second.devices n node q at device other)

  -- the entries of a crossbar
  one_list_of : (x : ℕ) (xbar : XbarDesc) → CrossbarIs (design_of m) x xbar → (a b : List NodeRanges) → AreNodeRanges m x a → AreNodeRanges m x b → a ≡ b
  one_list_of x xbar is a b first second =
      same_lists a b (first.count xbar is ∙ sym (second.count xbar is)) (λ n p q here there.
      let node = item_at xbar.nodes n (subst (λ k. n < k) (first.count xbar is) (slice_get_within a n p here)) in
      let one : p.ranges ≡ q.ranges =
      one_entry x n a b first second node.0 (record { crossbar = xbar; crossbar_is = is; is = node.1 }) node.0.host refl p q here there in
      λ i. record { ranges = one i })

  -- those of all crossbars
  pub one_list_of_all : (a b : List XbarRanges) → AreRangesOfAll m a → AreRangesOfAll m b → a ≡ b
  one_list_of_all a b first second =
      same_lists a b (first.count ∙ sym second.count) (λ x p q here there.
      let xbar = item_at m.xbars x (subst (λ k. x < k) first.count (slice_get_within a x p here)) in
      let one : p.ranges ≡ q.ranges = one_list_of x xbar.0 xbar.1 p.ranges q.ranges (first.each x p here) (second.each x q there) in
      λ i. record { ranges = one i })
