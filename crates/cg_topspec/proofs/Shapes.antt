-- Ranges of good shape, and the ranges of a top that breaks no rule on them.
use Rattle.std.proofs.Common.{List, [], ap, arith, inl, inr, refl, suc, sym, zero, ℕ, ◌%◌, ◌*◌, ◌+◌, ◌/◌, ◌<◌, ◌^◌, ◌∙◌, ◌∷◌, ◌≡◌, ◌≤◌, ◌⊎◌}
use Rattle.std.proofs.Math.Nat.{add-mul-mod_self_left, div-add-mod, mod-eq_of_lt}
use Rattle.std.proofs.Math.Pow.{pow_mono}
use Rattle.std.proofs.lemmas.Bool.{cases_lt}
use Rattle.std.proofs.lemmas.Nat.{pow_pos}
use Rattle.cg_desc.specs.Crossbar.{IsDevice, IsValidCrossbar}
use Rattle.cg_desc.specs.Ends.{CrossbarIs}
use Rattle.cg_desc.specs.Merged.{design_of}
use Rattle.cg_desc.specs.Ranges.{AreRangesOf, IsRange, RangesAre, SomeHolds}
use Rattle.cg_desc.specs.Reach.{HasRanges}
use Rattle.cg_desc.specs.declared.crossbar.NodeRanges.{NodeRanges}
use Rattle.cg_desc.specs.declared.crossbar.Range.{Range}
use Rattle.cg_desc.specs.declared.crossbar.XbarDesc.{XbarDesc}
use Rattle.cg_desc.specs.declared.top.MergedTop.{MergedTop}
use Rattle.cg_space.proofs.Spacing.{alike, device_at, none_bad, not_earlier, not_shared_within}
use Rattle.cg_space.specs.Answers.{AreNodeRanges}
use Rattle.cg_space.specs.Inner.Sound.{IsDeviceAt}
use Rattle.cg_space.specs.Violations.{NoViolation}
use Rattle.cg_svspec.specs.Names.{Among}
use Rattle.cg_svspec.specs.Printable.{AllOf, IsSomeOf}

-- ---- whether a range is of good shape

equal_or_not : (a b : ℕ) → (a ≡ b) ⊎ (a ≡ b → ⊥)
equal_or_not a b = by (cases_lt a b) (cases_lt b a) where
  by : (a < b) ⊎ (b ≤ a) → (b < a) ⊎ (a ≤ b) → (a ≡ b) ⊎ (a ≡ b → ⊥)
  by (inl less) q = inr (λ e. omega (arith, less, e))
  by (inr from) (inl more) = inr (λ e. omega (arith, more, e))
  by (inr from) (inr to) = inl (omega (arith, from, to))

-- a power of two below a bound
power_below : (n size : ℕ) → ((p : ℕ) × (p < n) × (size ≡ 2 ^ p)) ⊎ ((p : ℕ) → p < n → size ≡ 2 ^ p → ⊥)
power_below zero size = inr (λ p less e. omega (arith, less))
power_below (suc n) size = by (power_below n size) (equal_or_not size (2 ^ n)) where
  by : ((p : ℕ) × (p < n) × (size ≡ 2 ^ p)) ⊎ ((p : ℕ) → p < n → size ≡ 2 ^ p → ⊥) → (size ≡ 2 ^ n) ⊎ (size ≡ 2 ^ n → ⊥)
      → ((p : ℕ) × (p < suc n) × (size ≡ 2 ^ p)) ⊎ ((p : ℕ) → p < suc n → size ≡ 2 ^ p → ⊥)
  by (inl (p, less, e)) q = inl (p, omega (arith, less), e)
  by (inr none) (inl e) = inl (n, omega arith, e)
  by (inr none) (inr not) = inr (λ p less e. last p e (cases_lt p n) less) where
    last : (p : ℕ) → size ≡ 2 ^ p → (p < n) ⊎ (n ≤ p) → p < suc n → ⊥
    last p e (inl under) less = none p under e
    last p e (inr over) less = let same : p ≡ n = omega (arith, over, less) in not (e ∙ ap (λ k. 2 ^ k) same)

remainder_of : (k t : ℕ) → 0 < k → (k * t) % k ≡ 0
remainder_of k t some =
    let zero_more : 0 + k * t ≡ k * t = omega arith in
    ap (λ z. z % k) (sym zero_more) ∙ (add-mul-mod_self_left 0 k t ∙ mod-eq_of_lt some)

pub range_or_not : (r : Range) → IsRange r ⊎ (IsRange r → ⊥)
range_or_not r = by (power_below 33 r.size) (cases_lt (2 ^ 32) (r.base + r.size)) (equal_or_not (r.base % r.size) 0) where
  by : ((p : ℕ) × (p < 33) × (r.size ≡ 2 ^ p)) ⊎ ((p : ℕ) → p < 33 → r.size ≡ 2 ^ p → ⊥) → (2 ^ 32 < r.base + r.size) ⊎ (r.base + r.size ≤ 2 ^ 32)
      → (r.base % r.size ≡ 0) ⊎ (r.base % r.size ≡ 0 → ⊥) → IsRange r ⊎ (IsRange r → ⊥)
  by p (inl over) q = inr (λ good. omega (arith, good.ends, over))
  by p (inr within) (inr left) =
      inr (λ good. let some : 0 < 2 ^ good.power = pow_pos good.power in
      left (ap (λ b. b % r.size) good.aligned ∙ (ap (λ k. (2 ^ good.power * good.turn) % k) good.size_is ∙ remainder_of (2 ^ good.power) good.turn some)))
  by (inr none) (inr within) (inl whole) =
      inr (λ good. few good (cases_lt good.power 33)) where
        few : (good : IsRange r) → (good.power < 33) ⊎ (33 ≤ good.power) → ⊥
        few good (inl less) = none good.power less good.size_is
        few good (inr more) = let large : 2 ^ 33 ≤ 2 ^ good.power = pow_mono more in omega (arith, large, good.size_is, good.ends)
  by (inl (p, less, e)) (inr within) (inl whole) = small (cases_lt p 2) where
    small : (p < 2) ⊎ (2 ≤ p) → IsRange r ⊎ (IsRange r → ⊥)
    small (inl under) = inr (λ good.
        let large : 2 ^ 2 ≤ 2 ^ good.power = pow_mono good.some in
        let low : p ≤ 1 = omega (arith, under) in
        let tiny : 2 ^ p ≤ 2 ^ 1 = pow_mono low in
        omega (arith, large, tiny, good.size_is, e))
    small (inr some) = inl (record {
      power = p;
      size_is = e;
      some = some;
      turn = r.base / r.size;
      aligned =
          let split : r.size * (r.base / r.size) + r.base % r.size ≡ r.base = div-add-mod r.base r.size in
          let turned : r.base ≡ r.size * (r.base / r.size) = omega (arith, split, whole) in
          turned ∙ ap (λ k. k * (r.base / r.size)) e;
      ends = within;
    })

-- ---- the ranges of a top that breaks no rule on them

good_list : (rs : List Range) → ((r : Range) → Among r rs → IsRange r) → AllOf IsRange rs
good_list [] good = tt
good_list (r ∷ rs) good = (good r (inl refl), good_list rs (λ s a. good s (inr a)))

-- a device's ranges are of good shape
pub good_range : (m : MergedTop) → NoViolation m → (x n : ℕ) (device : IsDeviceAt m x n) (rs : List Range) → HasRanges m x n rs → (r : Range) → Among r rs → IsRange r
good_range m none x n device rs has r a = by (range_or_not r) where
  by : IsRange r ⊎ (IsRange r → ⊥) → IsRange r
  by (inl good) = good
  by (inr bad) = absurd (none_bad m x n device.1.crossbar device.0 none (device_at m x n device) (rs, has, inr (r, a, bad)))

some_range : (rs : List Range) → (rs ≡ [] → ⊥) → IsSomeOf rs
some_range [] not = absurd (not refl)
some_range (r ∷ rs) not = tt

placed : (m : MergedTop) (x n : ℕ) (xbar : XbarDesc) → CrossbarIs (design_of m) x xbar → IsDevice xbar n → IsDeviceAt m x n
placed m x n xbar is device = (device.0, record { crossbar = xbar; crossbar_is = is; is = device.1 }, device.2)

-- the ranges of a crossbar's nodes are as its module needs them
pub node_ranges_fit : (m : MergedTop) → NoViolation m → (x : ℕ) (xbar : XbarDesc) (entries : List NodeRanges) → CrossbarIs (design_of m) x xbar → IsValidCrossbar xbar → AreNodeRanges m x entries
    → AreRangesOf xbar entries
node_ranges_fit m none x xbar entries at valid are = record {
  count = are.count xbar at;
  some = λ d rs device there. some_range rs.ranges (λ e. none_bad m x d xbar device.0 none (record { crossbar_is = at; is = device.1; is_device = device.2 }) (rs.ranges, has d rs device there, inl e));
  shapes = λ d rs device there. good_list rs.ranges (λ r a. good_range m none x d (placed m x d xbar at device) rs.ranges (has d rs device there) r a);
  differ = λ d i j a rs r s device there p q h k.
      alike i j (not_shared_within m x d i j a xbar rs.ranges r s none at device (has d rs device there) p q h k)
      (not_shared_within m x d j i a xbar rs.ranges s r none at device (has d rs device there) q p k h);
  apart = λ h d e a to_d to_e p q.
      let device_d = valid.devices_only h d to_d in
      let device_e = valid.devices_only h e to_e in
      let some_d : SomeHolds p.0.ranges a = (p.2, p.3, p.4) in
      let some_e : SomeHolds q.0.ranges a = (q.2, q.3, q.4) in
      alike d e (not_earlier m x h d e a xbar p.0.ranges q.0.ranges none at device_e to_d to_e (has d p.0 device_d p.1) (has e q.0 device_e q.1) some_d some_e)
      (not_earlier m x h e d a xbar q.0.ranges p.0.ranges none at device_d to_e to_d (has e q.0 device_e q.1) (has d p.0 device_d p.1) some_e some_d);
} where
  has : (d : ℕ) (rs : NodeRanges) → IsDevice xbar d → RangesAre entries d rs → HasRanges m x d rs.ranges
  has d rs device there = are.devices d device.0 rs (record { crossbar = xbar; crossbar_is = at; is = device.1 }) device.2 there
