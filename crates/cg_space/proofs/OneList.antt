-- A device has one list of ranges.
use Rattle.std.proofs.Common.{◌≡◌, ℕ, List, [], ◌∷◌, refl, sym, ap, subst}
use Rattle.cg_desc.specs.Merged.{BaseIs, FaceAt, NodeAt}
use Rattle.cg_desc.specs.Reach.{HasRanges, HaveRanges, IsInnerHost, interface, outside, nested, nothing, more}
use Rattle.cg_desc.specs.declared.block.LaidFace.{LaidFace}
use Rattle.cg_desc.specs.declared.crossbar.NodeDesc.{NodeDesc}
use Rattle.cg_desc.specs.declared.crossbar.Range.{Range}
use Rattle.cg_desc.specs.declared.top.MergedTop.{MergedTop}
use Rattle.cg_desc.specs.declared.top.NodeEnd.TheVariants.{Face, Xbar, Outside}
use Rattle.cg_space.specs.Inner.Sound.{IsSound}
use Rattle.cg_space.proofs.Sound.{one_end, one_face, one_node}

-- the range of an interface
one_range : (m : MergedTop) → IsSound m → (i f j g a b : ℕ) (p q : LaidFace) → Face i f ≡ Face j g → FaceAt m i f p → BaseIs m i f a → FaceAt m j g q → BaseIs m j g b
    → ◌≡◌ {A = Range} (record { base = a; size = p.size }) (record { base = b; size = q.size })
one_range m sound i f j g a b p q same face base other_face other_base =
    let e : i ≡ j = cc in
    let k : f ≡ g = cc in
    let faces : p ≡ q = one_face m j g p q (subst (λ x. FaceAt m x g p) e (subst (λ x. FaceAt m i x p) k face)) other_face in
    let bases : a ≡ b = sound.one_base j g a b (subst (λ x. BaseIs m x g a) e (subst (λ x. BaseIs m i x a) k base)) other_base in
    rw (faces, bases) refl

-- the inner host of a nested device
pub one_to : (m : MergedTop) → IsSound m → (x y z k l : ℕ) (a b : NodeDesc) → Xbar y ≡ Xbar z → IsInnerHost m x y k a → IsInnerHost m x z l b → (y ≡ z) × (a.to ≡ b.to)
one_to m sound x y z k l a b same p q =
    let e : y ≡ z = cc in
    let p' : IsInnerHost m x z k a = subst (λ c. IsInnerHost m x c k a) e p in
    let number : k ≡ l = sound.one_inner x z k l a b p' q in
    (e, ap (λ (n : NodeDesc). n.to) (one_node m z l a b (subst (λ c. NodeAt m z c a) number p'.is) q.is))

mutual
  pub has_once : (m : MergedTop) → IsSound m → (x n : ℕ) (rs ss : List Range) → HasRanges m x n rs → HasRanges m x n ss → rs ≡ ss
  has_once m sound x n rs ss (interface i f a p stands face base) (interface j g b q other other_face other_base) =
      ap (λ r. r ∷ []) (one_range m sound i f j g a b p q (one_end m x n (Face i f) (Face j g) stands other) face base other_face other_base)
  has_once m sound x n rs ss (interface i f a p stands face base) (outside node at other) = absurd (let h = one_end m x n (Face i f) Outside stands other in cc)
  has_once m sound x n rs ss (interface i f a p stands face base) (nested y k host other inner have) = absurd (let h = one_end m x n (Face i f) (Xbar y) stands other in cc)
  has_once m sound x n rs ss (outside node at stands) (interface j g b q other other_face other_base) = absurd (let h = one_end m x n Outside (Face j g) stands other in cc)
  has_once m sound x n rs ss (outside node at stands) (outside node' at' other) = ap (λ (d : NodeDesc). d.ranges) (one_node m x n node node' at at')
  has_once m sound x n rs ss (outside node at stands) (nested y k host other inner have) = absurd (let h = one_end m x n Outside (Xbar y) stands other in cc)
  has_once m sound x n rs ss (nested y k host stands inner have) (interface j g b q other other_face other_base) = absurd (let h = one_end m x n (Xbar y) (Face j g) stands other in cc)
  has_once m sound x n rs ss (nested y k host stands inner have) (outside node at other) = absurd (let h = one_end m x n (Xbar y) Outside stands other in cc)
  has_once m sound x n rs ss (nested y k host stands inner have) (nested z l host' other inner' have') =
      let both = one_to m sound x y z k l host host' (one_end m x n (Xbar y) (Xbar z) stands other) inner inner' in
      have_once m sound y z host.to host'.to rs ss both.0 both.1 have have'

  pub have_once : (m : MergedTop) → IsSound m → (x z : ℕ) (ds es : List ℕ) (rs ss : List Range) → x ≡ z → ds ≡ es → HaveRanges m x ds rs → HaveRanges m z es ss → rs ≡ ss
  have_once m sound x z [] [] rs ss e same nothing nothing = refl
  have_once m sound x z [] (d ∷ es) rs ss e same nothing (more _ has have) = absurd cc
  have_once m sound x z (d ∷ ds) [] rs ss e same (more _ has have) nothing = absurd cc
  have_once m sound x z (d ∷ ds) (c ∷ es) rs ss e same (more {rs = r1} {ss = r2} _ has have) (more {rs = s1} {ss = s2} _ has' have') =
      let first : d ≡ c = cc in
      let rest : ds ≡ es = cc in
      let here : r1 ≡ s1 = has_once m sound x d r1 s1 has (subst (λ k. HasRanges m k d s1) (sym e) (subst (λ k. HasRanges m z k s1) (sym first) has')) in
      let there : r2 ≡ s2 = have_once m sound x z ds es r2 s2 e rest have have' in
      rw (here, there) refl
