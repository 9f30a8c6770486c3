-- Lists that grow by one item at a time.
use Rattle.std.proofs.Common.{◌≡◌, ℕ, zero, suc, ◌+◌, List, [], ◌∷◌, ◌++◌, ◌⊎◌, inl, inr, Some, length, slice_get, refl, sym, ap, ◌∙◌, subst, arith}
use Rattle.cg_desc.specs.Ends.{CrossbarIs}
use Rattle.cg_desc.specs.Merged.{design_of}
use Rattle.cg_desc.specs.declared.crossbar.XbarDesc.{XbarDesc}
use Rattle.cg_desc.specs.declared.top.MergedTop.{MergedTop}
use Rattle.cg_space.specs.Inner.Verdicts.{AreVerdicts, HaveVerdicts}
use Rattle.cg_space.specs.declared.verdict.Verdict.{Verdict}

pub at_end : {X : Type 0} (xs : List X) (x y : X) (i : ℕ) → slice_get (xs ++ x ∷ []) i ≡ Some y → (slice_get xs i ≡ Some y) ⊎ ((i ≡ length xs) × (y ≡ x))
at_end [] x y zero h = let e : x ≡ y = cc in inr (refl, sym e)
at_end [] x y (suc i) h = absurd cc
at_end (z ∷ zs) x y zero h = inl h
at_end (z ∷ zs) x y (suc i) h = elim (at_end zs x y i h) [ inl l ↦ inl l | inr r ↦ inr (ap suc r.0, r.1) ]

pub one_longer : {X : Type 0} (xs : List X) (x : X) → length (xs ++ x ∷ []) ≡ length xs + 1
one_longer [] x = refl
one_longer (y ∷ ys) x = omega (arith, one_longer ys x)

-- the first n items are each as this says of their number
pub record AreBelow {X : Type 0} (P : ℕ → X → Type 0) (n : ℕ) (xs : List X) : Type 0 where
  pub count : length xs ≡ n
  pub each : (i : ℕ) (x : X) → slice_get xs i ≡ Some x → P i x

pub none_below : {X : Type 0} (P : ℕ → X → Type 0) → AreBelow P 0 []
none_below P = record { count = refl; each = λ i x at. absurd cc }

pub one_below : {X : Type 0} (P : ℕ → X → Type 0) (n : ℕ) (old new : List X) (x : X) → P n x → new ≡ old ++ x ∷ [] → AreBelow P n old → AreBelow P (n + 1) new
one_below {X} P n old new x here is below = record {
  count = rw is (one_longer old x ∙ ap (λ k. k + 1) below.count);
  each = λ i y at. elim (at_end old x y i (rw is at at)) [
    | inl l ↦ below.each i y l
    | inr r ↦ subst (λ k. P k y) (sym (r.0 ∙ below.count)) (subst (λ (z : X). P n z) (sym r.1) here)
  ];
}

-- ---- verdicts

pub verdicts_of : (m : MergedTop) (Is : ℕ → ℕ → Verdict → Type 0) (x n : ℕ) (verdicts : List Verdict) → ((xbar : XbarDesc) → CrossbarIs (design_of m) x xbar → n ≡ length xbar.nodes)
    → AreBelow (Is x) n verdicts → AreVerdicts m Is x verdicts
verdicts_of m Is x n verdicts all below = record { count = λ xbar is. below.count ∙ all xbar is; each = below.each }

pub all_verdicts : (m : MergedTop) (Is : ℕ → ℕ → Verdict → Type 0) (all : List (List Verdict)) → AreBelow (AreVerdicts m Is) (length m.xbars) all → HaveVerdicts m Is all
all_verdicts m Is all below = record {
  counts = record { count = below.count; each = λ x verdicts xbar at is. (below.each x verdicts at).count xbar is };
  each = λ x n verdicts v at there. (below.each x verdicts at).each n v there;
}
