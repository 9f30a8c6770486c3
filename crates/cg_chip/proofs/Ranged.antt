-- The ranges of the crossbars so far.
use Rattle.std.proofs.Common.{◌≡◌, ◌+◌, ◌<◌, ◌≤◌, ℕ, zero, suc, List, [], ◌∷◌, ◌++◌, length, length-append, Option, Some, None, refl, sym, ap, subst, ◌∙◌, arith}
use Rattle.std.specs.List.{slice_get}
use Rattle.cg_desc.specs.Crossbar.{IsValidCrossbar}
use Rattle.cg_desc.specs.Ends.{CrossbarIs}
use Rattle.cg_desc.specs.Merged.{IsMerged, design_of}
use Rattle.cg_desc.specs.Ranges.{AreRangesOf}
use Rattle.cg_desc.specs.declared.crossbar.NodeRanges.{NodeRanges}
use Rattle.cg_desc.specs.declared.crossbar.XbarDesc.{XbarDesc}
use Rattle.cg_desc.specs.declared.top.MergedTop.{MergedTop}
use Rattle.cg_space.specs.Answers.{AreNodeRanges}
use Rattle.cg_chip.specs.Chip.{AreRangesOfAll}
use Rattle.cg_chip.specs.Inner.{AllFit}
use Rattle.cg_chip.specs.declared.chip.XbarRanges.{XbarRanges}
use Rattle.cg_chip.proofs.Items.{all_at}

-- these are the ranges of crossbar x, and fit it
pub record IsRanged (m : MergedTop) (x : ℕ) (ranges : List NodeRanges) : Type 0 where
  pub are : AreNodeRanges m x ranges
  pub fit : (xbar : XbarDesc) → CrossbarIs (design_of m) x xbar → AreRangesOf xbar ranges

-- each of these is for the crossbar of its place
pub record EachRanged (m : MergedTop) (all : List XbarRanges) : Type 0 where
  pub each : (x : ℕ) (ranges : XbarRanges) → slice_get all x ≡ Some ranges → IsRanged m x ranges.ranges

nowhere : {A : Type 0} (x : ℕ) (a : A) → ◌≡◌ {A = Option A} (slice_get [] x) (Some a) → ⊥
nowhere x a is = cc

pub none_ranged : (m : MergedTop) (all : List XbarRanges) → all ≡ [] → EachRanged m all
none_ranged m all empty = subst (EachRanged m) (sym empty) (record { each = λ x ranges is. absurd (nowhere x ranges is) })

-- the last item stands at the length, and those before where they stood
last_item : {A : Type 0} (P : ℕ → A → Type 0) (xs : List A) (y : A) → ((i : ℕ) (x : A) → slice_get xs i ≡ Some x → P i x) → P (length xs) y → (i : ℕ) (x : A) → slice_get (xs ++ y ∷ []) i ≡ Some x → P i x
last_item P [] y each last zero x is = let same : y ≡ x = cc in subst (P 0) same last
last_item P [] y each last (suc i) x is = cc
last_item P (z ∷ zs) y each last zero x is = each 0 x is
last_item P (z ∷ zs) y each last (suc i) x is = last_item (λ k. P (suc k)) zs y (λ k w at. each (suc k) w at) last i x is

-- there is one more
pub one_counted : (all now : List XbarRanges) (x : ℕ) (ranges : XbarRanges) → length all ≡ x → now ≡ all ++ ranges ∷ [] → length now ≡ x + 1
one_counted all now x ranges count put = let e = ap length put ∙ length-append all (ranges ∷ []) in omega (arith, e, count)

-- it has its ranges
pub one_ranged : (m : MergedTop) (all now : List XbarRanges) (x : ℕ) (ranges : XbarRanges) → length all ≡ x → EachRanged m all → IsRanged m x ranges.ranges → now ≡ all ++ ranges ∷ []
    → EachRanged m now
one_ranged m all now x ranges count so is put = subst (EachRanged m) (sym put) (record {
  each = last_item (λ k (r : XbarRanges). IsRanged m k r.ranges) all ranges so.each (subst (λ k. IsRanged m k ranges.ranges) (sym count) is);
})

-- all have theirs
pub all_ranged : (m : MergedTop) (all : List XbarRanges) → length all ≡ length m.xbars → EachRanged m all → AreRangesOfAll m all
all_ranged m all count so = record { count = count; each = λ x ranges is. (so.each x ranges is).are }

pub all_fit : (m : MergedTop) (all : List XbarRanges) → IsMerged m → EachRanged m all → AllFit m.xbars all
all_fit m all merged so x xbar ranges is also = (all_at IsValidCrossbar m.xbars x xbar merged.crossbars is, (so.each x ranges also).fit xbar is)
