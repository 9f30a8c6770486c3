-- Powers of sizes, terms of ranges, and selects, step by step.
use Rattle.std.proofs.Common.{◌≡◌, ℕ, zero, suc, ◌-◌, ◌/◌, ◌<◌, ◌≤◌, leb, Bool, true, false, cond, List, [], ◌∷◌, length, map, drop, drop-cons, get_or, arith, refl, ap, sym, ◌∙◌}
use Rattle.std.proofs.lemmas.Bool.Decides.{nat_tests}
use Rattle.cg_svspec.specs.Tree.{lit, any, cat, pick, more, expressions}
use Rattle.cg_desc.specs.declared.crossbar.Range.{Range}
use Rattle.cg_desc.specs.declared.crossbar.NodeRanges.{NodeRanges}
use Rattle.cg_busspec.specs.Crossbar.{Crossbar, ranges_at, device_ranges}
use Rattle.cg_busspec.specs.CrossbarModule.{halvings, range_term, range_terms, select}

-- ---- powers

-- a number that can be halved is halved once more
half_more : (fuel n : ℕ) → 1 < n → halvings (suc fuel) n ≡ suc (halvings fuel (n / 2))
half_more fuel n big = by (leb n 1) refl where
  by : (b : Bool) → leb n 1 ≡ b → cond b 0 (suc (halvings fuel (n / 2))) ≡ suc (halvings fuel (n / 2))
  by true e = absurd (grind (arith, nat_tests))
  by false e = refl

-- where 32 - p halvings are left
pub power_more : (p n : ℕ) → p < 32 → 1 < n → halvings (32 - p) n ≡ suc (halvings (32 - suc p) (n / 2))
power_more p n low big = let one : 32 - p ≡ suc (32 - suc p) = omega arith in ap (λ z. halvings z n) one ∙ half_more (32 - suc p) n big

-- none is left
pub power_all : (n : ℕ) → halvings 0 n ≡ 0
power_all n = refl

-- or none can be made
pub power_done : (fuel n : ℕ) → n ≤ 1 → halvings fuel n ≡ 0
power_done zero n small = refl
power_done (suc fuel) n small = by (leb n 1) refl where
  by : (b : Bool) → leb n 1 ≡ b → cond b 0 (suc (halvings fuel (n / 2))) ≡ 0
  by true e = refl
  by false e = absurd (grind (arith, nat_tests))

pub ruleset powers = (power_more, power_all, power_done)

-- ---- terms

-- the terms of ranges
pub terms_are : (q : List ℕ) (rs : List Range) → expressions (map (range_term q) rs) ≡ range_terms q rs
terms_are q [] = refl
terms_are q (r ∷ rs) = ap (more (range_term q r)) (terms_are q rs)

-- ---- ranges

-- the ranges at a place
pub ranges_there : (ranges : List NodeRanges) (i : ℕ) (rs : NodeRanges) → i < length ranges → rs ≡ get_or ranges i rs → ranges_at ranges i ≡ rs.ranges
ranges_there [] i rs low e = absurd (omega (arith, low))
ranges_there (r ∷ ranges) zero rs low e = ap (λ z. z.ranges) (sym e)
ranges_there (r ∷ ranges) (suc i) rs low e = ranges_there ranges i rs (omega (arith, low)) e

-- and where there is none
pub ranges_absent : (ranges : List NodeRanges) (i : ℕ) → length ranges ≤ i → ranges_at ranges i ≡ []
ranges_absent [] i high = refl
ranges_absent (r ∷ ranges) zero high = absurd (omega (arith, high))
ranges_absent (r ∷ ranges) (suc i) high = ranges_absent ranges i (omega (arith, high))

pub ruleset ranges = (ranges_there, ranges_absent)

-- ---- selects

-- behind all devices
pub select_end : (x : Crossbar) (q : List ℕ) (ds : List ℕ) → select x q (length ds) (drop (length ds) ds) ≡ lit 8 (length ds)
select_end x q ds = ap (select x q (length ds)) (nothing ds) where
  nothing : (ds : List ℕ) → drop (length ds) ds ≡ []
  nothing [] = refl
  nothing (d ∷ ds) = nothing ds

-- one device more
pub select_more : (x : Crossbar) (q : List ℕ) (ds : List ℕ) (i d : ℕ) → i < length ds → d ≡ get_or ds i d
    → select x q i (drop i ds) ≡ pick (any (cat (range_terms q (device_ranges x d)))) (lit 8 i) (select x q (suc i) (drop (suc i) ds))
select_more x q ds i d low e = ap (select x q i) (drop-cons ds i d low ∙ ap (λ z. z ∷ drop (suc i) ds) (sym e))

pub ruleset select_steps = (select_end, select_more)
