-- The files of a top are merged in one way.
use Rattle.std.proofs.Common.{◌≡◌, ℕ, zero, suc, ◌<◌, List, [], ◌∷◌, length, Some, refl, sym, ap, subst, ◌∙◌, arith}
use Rattle.std.specs.List.{slice_get}
use Rattle.std.proofs.lemmas.Option.{slice_get_within}
use Rattle.cg_desc.specs.Ends.{BlockIs, StandsFor}
use Rattle.cg_desc.specs.Merged.{IsMerged, design_of}
use Rattle.cg_desc.specs.Top.{Design}
use Rattle.cg_desc.specs.declared.block.LaidBlock.{LaidBlock}
use Rattle.cg_desc.specs.declared.top.InstDesc.{InstDesc}
use Rattle.cg_desc.specs.declared.crossbar.NodeDesc.{NodeDesc}
use Rattle.cg_desc.specs.declared.crossbar.XbarDesc.{XbarDesc}
use Rattle.cg_desc.specs.declared.top.MergedTop.{MergedTop}
use Rattle.cg_desc.specs.declared.top.NodeEnd.{NodeEnd}
use Rattle.cg_desc.specs.declared.top.XbarEnds.{XbarEnds}
use Rattle.cg_desc.proofs.Blocks.{one_block}
use Rattle.cg_desc.proofs.Numbered.{item_at}
use Rattle.cg_merge.proofs.OneEnd.{one_end}

-- lists of one length whose items are the same are one
pub same_list : {X : Type 0} (xs ys : List X) → length xs ≡ length ys → ((i : ℕ) (x y : X) → slice_get xs i ≡ Some x → slice_get ys i ≡ Some y → x ≡ y) → xs ≡ ys
same_list [] [] count each = refl
same_list [] (y ∷ ys) count each = absurd (omega arith)
same_list (x ∷ xs) [] count each = absurd (omega arith)
same_list (x ∷ xs) (y ∷ ys) count each =
    let first = each 0 x y refl refl in
    let rest = same_list xs ys (omega arith) (λ i u v. each (suc i) u v) in
    (λ i. first i ∷ rest i)

module _ (a b : MergedTop) (one : IsMerged a) (other : IsMerged b) (same : design_of a ≡ design_of b) where
  -- how many blocks and ends there are
  same_kind_count : length a.kinds ≡ length b.kinds
  same_kind_count =
      let insts : length a.top.insts ≡ length b.top.insts = ap (λ (d : Design). length d.top.insts) same in
      one.kinds.count ∙ (insts ∙ sym other.kinds.count)

  same_end_count : length a.ends ≡ length b.ends
  same_end_count =
      let xbars : length a.xbars ≡ length b.xbars = ap (λ (d : Design). length d.xbars) same in
      one.ends.count ∙ (xbars ∙ sym other.ends.count)

  -- an instance has one number of a block
  same_kind : (i j k : ℕ) → slice_get a.kinds i ≡ Some j → slice_get b.kinds i ≡ Some k → j ≡ k
  same_kind i j k here there =
      let within = slice_get_within a.kinds i j here in
      let count = one.kinds.count in
      let inst = item_at a.top.insts i (omega arith) in
      let inst_there : slice_get b.top.insts i ≡ Some inst.0 = subst (λ (d : Design). slice_get d.top.insts i ≡ Some inst.0) same inst.1 in
      let block = one.kinds.each i j inst.0 inst.1 here in
      let also = other.kinds.each i k inst.0 inst_there there in
      let moved : BlockIs (design_of a) (inst.0).kind k also.0 = subst (λ d. BlockIs d (inst.0).kind k also.0) (sym same) also.1 in
      (one_block (design_of a) one.files (inst.0).kind j k block.0 also.0 block.1 moved).0

  -- a node has one end
  same_end : (x n : ℕ) (xbar : XbarDesc) (node : NodeDesc) (ends also : XbarEnds) (e o : NodeEnd) → slice_get a.xbars x ≡ Some xbar → slice_get xbar.nodes n ≡ Some node
      → slice_get a.ends x ≡ Some ends → slice_get b.ends x ≡ Some also → slice_get ends.ends n ≡ Some e → slice_get also.ends n ≡ Some o → e ≡ o
  same_end x n xbar node ends also e o xbar_is is here there at_here at_there =
      let xbar_there : slice_get b.xbars x ≡ Some xbar = subst (λ (d : Design). slice_get d.xbars x ≡ Some xbar) same xbar_is in
      let first = one.ends.each x n node e (record { crossbar = xbar; crossbar_is = xbar_is; is = is }) (ends, here, at_here) in
      let second = other.ends.each x n node o (record { crossbar = xbar; crossbar_is = xbar_there; is = is }) (also, there, at_there) in
      one_end a one x node e o first (subst (λ d. StandsFor d x node o) (sym same) second)

  same_ends_of : (x : ℕ) (xbar : XbarDesc) (ends also : XbarEnds) → slice_get a.xbars x ≡ Some xbar → slice_get a.ends x ≡ Some ends → slice_get b.ends x ≡ Some also → ends ≡ also
  same_ends_of x xbar ends also xbar_is here there =
      let xbar_there : slice_get b.xbars x ≡ Some xbar = subst (λ (d : Design). slice_get d.xbars x ≡ Some xbar) same xbar_is in
      let count : length ends.ends ≡ length xbar.nodes = one.ends.counts x xbar ends xbar_is here in
      let also_count : length also.ends ≡ length xbar.nodes = other.ends.counts x xbar also xbar_there there in
      let items : ends.ends ≡ also.ends = same_list ends.ends also.ends (count ∙ sym also_count) (each count) in
      (λ i. record { ends = items i }) where
        each : length ends.ends ≡ length xbar.nodes → (n : ℕ) (e o : NodeEnd) → slice_get ends.ends n ≡ Some e → slice_get also.ends n ≡ Some o → e ≡ o
        each count n e o at_here at_there =
            let within = slice_get_within ends.ends n e at_here in
            let node = item_at xbar.nodes n (omega arith) in
            same_end x n xbar node.0 ends also e o xbar_is node.1 here there at_here at_there

  same_ends : (x : ℕ) (ends also : XbarEnds) → slice_get a.ends x ≡ Some ends → slice_get b.ends x ≡ Some also → ends ≡ also
  same_ends x ends also here there =
      let within = slice_get_within a.ends x ends here in
      let count = one.ends.count in
      let xbar = item_at a.xbars x (omega arith) in
      same_ends_of x xbar.0 ends also xbar.1 here there

  -- so all that they have
  pub same_merge : a ≡ b
  same_merge =
      let kinds : a.kinds ≡ b.kinds = same_list a.kinds b.kinds same_kind_count same_kind in
      let ends : a.ends ≡ b.ends = same_list a.ends b.ends same_end_count same_ends in
      (λ i. record { top = (same i).top; xbars = (same i).xbars; blocks = (same i).blocks; kinds = kinds i; ends = ends i })

-- the law
pub merged_once : (a b : MergedTop) → IsMerged a → IsMerged b → design_of a ≡ design_of b → a ≡ b
merged_once a b one other same = same_merge a b one other same
