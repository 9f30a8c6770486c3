-- The block of an instance is one.
use Rattle.std.proofs.Common.{◌≡◌, ℕ, ◌<◌, ◌≤◌, ◌⊎◌, List, Some, inl, inr, ap, subst, ◌∙◌, arith}
use Rattle.std.specs.List.{slice_get}
use Rattle.std.proofs.lemmas.Bool.{cases_lt}
use Rattle.cg_desc.specs.Top.{AreItsFiles, AreTypes, Design}
use Rattle.cg_desc.specs.Ends.{BlockIs, IsOf}
use Rattle.cg_desc.specs.declared.block.LaidBlock.{LaidBlock}
use Rattle.cg_desc.specs.declared.top.InstDesc.{InstDesc}
use Rattle.cg_desc.proofs.Numbered.{image_at, same_item}

-- a type stands once
one_type : (insts : List InstDesc) (types : List (List ℕ)) → AreTypes insts types → (j k : ℕ) (t : List ℕ) → slice_get types j ≡ Some t → slice_get types k ≡ Some t → j ≡ k
one_type insts types are j k t a b = by (cases_lt j k) (cases_lt k j) where
  not_less : (i n : ℕ) → slice_get types i ≡ Some t → slice_get types n ≡ Some t → i < n → ⊥
  not_less i n here there less = let used = are.in_order i n t t here there less in used.2 used.0 (omega arith) used.1

  by : (j < k) ⊎ (k ≤ j) → (k < j) ⊎ (j ≤ k) → j ≡ k
  by (inl less) e = absurd (not_less j k a b less)
  by (inr more) (inl less) = absurd (not_less k j b a less)
  by (inr more) (inr most) = omega arith

-- a type has one block
pub one_block : (d : Design) → AreItsFiles d → (kind : List ℕ) (j k : ℕ) (a b : LaidBlock) → BlockIs d kind j a → BlockIs d kind k b → (j ≡ k) × (a ≡ b)
one_block d files kind j k a b first second =
    let here = image_at (λ (x : LaidBlock). x.desc.name) d.blocks j a first.is ∙ ap Some first.named in
    let there = image_at (λ (x : LaidBlock). x.desc.name) d.blocks k b second.is ∙ ap Some second.named in
    let same = one_type d.top.insts _ files.blocks j k kind here there in
    (same, same_item d.blocks k a b (subst (λ n. slice_get d.blocks n ≡ Some a) same first.is) second.is)

-- an instance has one block
pub one_of : (d : Design) → AreItsFiles d → (i : ℕ) (x y : InstDesc) (a b : LaidBlock) → IsOf d i x a → IsOf d i y b → (x ≡ y) × (a ≡ b)
one_of d files i x y a b first second =
    let same = same_item d.top.insts i x y first.instance second.instance in
    let named : BlockIs d y.kind first.number a = subst (λ (z : InstDesc). BlockIs d z.kind first.number a) same first.block_is in
    (same, (one_block d files y.kind first.number second.number a b named second.block_is).1)
