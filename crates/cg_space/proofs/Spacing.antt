-- The ranges of a crossbar in a top that breaks none of the rules on ranges.
use Rattle.std.proofs.Common.{◌≡◌, ℕ, ◌<◌, ◌≤◌, Bool, true, false, List, [], ◌∷◌, ◌⊎◌, inl, inr, Some, slice_get, refl, sym, ap, ◌∙◌, subst, arith}
use Rattle.std.proofs.lemmas.Bool.{cases_lt}
use Rattle.cg_svspec.specs.Printable.{AllOf, IsSomeOf}
use Rattle.cg_desc.specs.Crossbar.{Connects, IsDevice, IsValidCrossbar}
use Rattle.cg_desc.specs.Ends.{CrossbarIs}
use Rattle.cg_desc.specs.Merged.{design_of}
use Rattle.cg_desc.specs.Ranges.{AreRangesOf, IsRange, RangeHolds, RangesAre, SomeHolds}
use Rattle.cg_desc.specs.Reach.{HasRanges, NoCircle}
use Rattle.cg_desc.specs.declared.crossbar.NodeDesc.{NodeDesc}
use Rattle.cg_desc.specs.declared.crossbar.NodeRanges.{NodeRanges}
use Rattle.cg_desc.specs.declared.crossbar.Range.{Range}
use Rattle.cg_desc.specs.declared.crossbar.XbarDesc.{XbarDesc}
use Rattle.cg_desc.specs.declared.fault.Fault.{Fault}
use Rattle.cg_desc.specs.declared.top.MergedTop.{MergedTop}
use Rattle.cg_desc.proofs.Numbered.{image_of}
use Rattle.cg_space.specs.Answers.{AreNodeRanges}
use Rattle.cg_space.specs.Violations.{DeviceAt, HasBadRanges, HasSharedRange, NoViolation, Violates}
use Rattle.cg_space.specs.Inner.Sound.{IsDeviceAt, IsSound}
use Rattle.cg_space.specs.Inner.Tables.{IsEntry, IsKept, IsTable, entries_of}
use Rattle.cg_space.specs.declared.coverage.Coverage.{Coverage}
use Rattle.cg_space.proofs.Checking.{length_map, no_circle}
use Rattle.cg_space.proofs.Judging.{bad_of, share_of}
use Rattle.cg_space.proofs.Tabling.{all_at}

-- a top that breaks none of the rules has no circle
pub unbroken_free : (m : MergedTop) → NoViolation m → NoCircle m
unbroken_free m none = no_circle m (λ f c. none f (subst (λ (g : Fault). Violates m g) (sym c.says) (Violates.circle c.x c.n c.xbar c.node c.device c.circle)))

-- its devices have no bad ranges, and share none
pub none_bad : (m : MergedTop) (x n : ℕ) (xbar : XbarDesc) (node : NodeDesc) → NoViolation m → DeviceAt m x n xbar node → ¬ HasBadRanges m x n
none_bad m x n xbar node none device bad = none _ (Violates.bad_range x n xbar node (unbroken_free m none) device bad)

none_shared : (m : MergedTop) (x n : ℕ) (xbar : XbarDesc) (node : NodeDesc) → NoViolation m → DeviceAt m x n xbar node → ¬ HasSharedRange m x n xbar
none_shared m x n xbar node none device shared = none _ (Violates.overlap x n xbar node (unbroken_free m none) device shared)

pub device_at : (m : MergedTop) (x n : ℕ) → (device : IsDeviceAt m x n) → DeviceAt m x n device.1.crossbar device.0
device_at m x n device = record { crossbar_is = device.1.crossbar_is; is = device.1.is; is_device = device.2 }

flag_off : (b : Bool) → (b ≡ true → ⊥) → b ≡ false
flag_off true not = absurd (not refl)
flag_off false not = refl

-- what is kept of a device
pub record IsClean (m : MergedTop) (x n : ℕ) (c : Coverage) : Type 0 where
  pub has : HasRanges m x n c.ranges
  pub good : AllOf IsRange c.ranges

pub clean : (m : MergedTop) (x n : ℕ) (c : Coverage) → NoViolation m → IsDeviceAt m x n → IsKept m x n c → IsClean m x n c
clean m x n c none device kept =
    let at = device_at m x n device in
    let good = flag_off c.is_bad (λ h. none_bad m x n device.1.crossbar device.0 none at (kept.0, kept.1, inr (bad_of kept.0 (kept.2.bad.0 h)))) in
    let apart = flag_off c.is_shared (λ h. none_shared m x n device.1.crossbar device.0 none at (kept.0, kept.1, inl (share_of kept.0 (kept.2.shared.0 h)))) in
    let same : c.ranges ≡ kept.0 = kept.2.listed good apart in
    record { has = rw same kept.1; good = rw same (kept.2.good good) }

-- an entry is what is kept of its node
kept_of : (m : MergedTop) (x n : ℕ) (table : List Coverage) (entry : NodeRanges) → IsTable m x table → RangesAre (entries_of table) n entry
    → (c : Coverage) × IsEntry m x n c × (c.ranges ≡ entry.ranges)
kept_of m x n table entry is at =
    let image = image_of (λ (c : Coverage). record { ranges = c.ranges }) table n entry at in
    (image.0, is.each n image.0 image.1, ap (λ (e : NodeRanges). e.ranges) image.2)

entry_has : (m : MergedTop) (x n : ℕ) (table : List Coverage) (entry : NodeRanges) → NoViolation m → IsTable m x table → IsDeviceAt m x n → RangesAre (entries_of table) n entry
    → HasRanges m x n entry.ranges × AllOf IsRange entry.ranges
entry_has m x n table entry none is device at =
    let kept = kept_of m x n table entry is at in
    let found = clean m x n kept.0 none device (kept.1.device device) in
    (subst (λ (rs : List Range). HasRanges m x n rs) kept.2 found.has, subst (λ (rs : List Range). AllOf IsRange rs) kept.2 found.good)

pub entries_are : (m : MergedTop) (x : ℕ) (table : List Coverage) → NoViolation m → IsTable m x table → AreNodeRanges m x (entries_of table)
entries_are m x table none is = record {
  count = λ xbar at. length_map (λ (c : Coverage). record { ranges = c.ranges }) table ∙ is.count xbar at;
  devices = λ n node entry at device there. (entry_has m x n table entry none is (node, at, device) there).0;
  hosts = λ n node entry at host there. let kept = kept_of m x n table entry is there in sym kept.2 ∙ kept.1.host (node, at, host);
}

-- ---- of good shape, and apart

some_of_list : (rs : List Range) → (rs ≡ [] → ⊥) → IsSomeOf rs
some_of_list [] not = absurd (not refl)
some_of_list (r ∷ rs) not = tt

placed : (m : MergedTop) (x n : ℕ) (xbar : XbarDesc) → CrossbarIs (design_of m) x xbar → IsDevice xbar n → IsDeviceAt m x n
placed m x n xbar is device = (device.0, record { crossbar = xbar; crossbar_is = is; is = device.1 }, device.2)

pub not_shared_within : (m : MergedTop) (x n i j a : ℕ) (xbar : XbarDesc) (rs : List Range) (r s : Range) → NoViolation m → CrossbarIs (design_of m) x xbar → IsDevice xbar n → HasRanges m x n rs
    → slice_get rs i ≡ Some r → slice_get rs j ≡ Some s → RangeHolds r a → RangeHolds s a → ¬ (i < j)
not_shared_within m x n i j a xbar rs r s none is device has p q h k less =
    none_shared m x n xbar device.0 none (record { crossbar_is = is; is = device.1; is_device = device.2 }) (
      rs,
      has,
      inl (
        j,
        record {
          i = i;
          order = less;
          earlier = r;
          later = s;
          earlier_is = p;
          later_is = q;
          address = a;
          earlier_holds = h;
          later_holds = k;
        },
      ),
    )

pub not_earlier : (m : MergedTop) (x h d e a : ℕ) (xbar : XbarDesc) (rs ss : List Range) → NoViolation m → CrossbarIs (design_of m) x xbar → IsDevice xbar e → Connects xbar h d → Connects xbar h e
    → HasRanges m x d rs → HasRanges m x e ss → SomeHolds rs a → SomeHolds ss a → ¬ (d < e)
not_earlier m x h d e a xbar rs ss none is device to_d to_e has_d has_e p q less =
    none_shared m x e xbar device.0 none (record { crossbar_is = is; is = device.1; is_device = device.2 }) (
      ss,
      has_e,
      inr (record {
        device = d;
        order = less;
        its_ranges = rs;
        has = has_d;
        host = h;
        to_earlier = to_d;
        to_later = to_e;
        address = a;
        earlier_holds = p;
        later_holds = q;
      }),
    )

pub alike : (i j : ℕ) → ¬ (i < j) → ¬ (j < i) → i ≡ j
alike i j p q = by (cases_lt i j) (cases_lt j i) where
  by : (i < j) ⊎ (j ≤ i) → (j < i) ⊎ (i ≤ j) → i ≡ j
  by (inl less) b = absurd (p less)
  by (inr more) (inl less) = absurd (q less)
  by (inr more) (inr most) = omega (arith, more, most)

pub entries_fit : (m : MergedTop) (x : ℕ) (table : List Coverage) (xbar : XbarDesc) → IsSound m → NoViolation m → IsTable m x table → CrossbarIs (design_of m) x xbar
    → AreRangesOf xbar (entries_of table)
entries_fit m x table xbar sound none is at = record {
  count = length_map (λ (c : Coverage). record { ranges = c.ranges }) table ∙ is.count xbar at;
  some = λ d rs device there. some_of_list rs.ranges (λ e.
      none_bad m x d xbar device.0 none (record { crossbar_is = at; is = device.1; is_device = device.2 }) (rs.ranges, has d rs device there, inl e));
  shapes = λ d rs device there. (entry_has m x d table rs none is (placed m x d xbar at device) there).1;
  differ = λ d i j a rs r s device there p q h k.
      alike i j (not_shared_within m x d i j a xbar rs.ranges r s none at device (has d rs device there) p q h k)
      (not_shared_within m x d j i a xbar rs.ranges s r none at device (has d rs device there) q p k h);
  apart = λ h d e a to_d to_e p q.
      let device_d = valid.devices_only h d to_d in
      let device_e = valid.devices_only h e to_e in
      let some_d : SomeHolds p.0.ranges a = (p.2, p.3, p.4) in
      let some_e : SomeHolds q.0.ranges a = (q.2, q.3, q.4) in
      alike d e (not_earlier m x h d e a xbar p.0.ranges q.0.ranges none at device_e to_d to_e (has d p.0 device_d p.1) (has e q.0 device_e q.1) some_d some_e)
      (not_earlier m x h e d a xbar q.0.ranges p.0.ranges none at device_d to_e to_d (has e q.0 device_e q.1) (has d p.0 device_d p.1) some_e some_d);
} where
  valid : IsValidCrossbar xbar
  valid = all_at IsValidCrossbar m.xbars x xbar sound.crossbars at

  has : (d : ℕ) (rs : NodeRanges) → IsDevice xbar d → RangesAre (entries_of table) d rs → HasRanges m x d rs.ranges
  has d rs device there = (entry_has m x d table rs none is (placed m x d xbar at device) there).0
