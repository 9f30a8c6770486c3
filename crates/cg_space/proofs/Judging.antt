-- What is wrong at a node, by what is kept of its ranges.
use Rattle.std.proofs.Common.{◌≡◌, ◌≢◌, ◌↔◌, ℕ, zero, suc, ◌+◌, ◌<◌, ◌≤◌, Bool, ◌||◌, true, false, IsTrue, List, [], ◌∷◌, ◌⊎◌, inl, inr, Some, length, get_or, slice_get, refl, sym, ap, ◌∙◌, subst, arith}
use Rattle.std.proofs.lemmas.Bool.{cases_lt, false≢true}
use Rattle.std.proofs.lemmas.Option.{get_or_from_slice_get, slice_get_within, slice_get-get_or}
use Rattle.cg_svspec.specs.Names.{Among}
use Rattle.cg_desc.specs.Ends.{CrossbarIs}
use Rattle.cg_desc.specs.Merged.{design_of, NodeAt}
use Rattle.cg_desc.specs.Ranges.{IsRange, RangeHolds, SomeHolds}
use Rattle.cg_desc.specs.Reach.{HasRanges, Leads, Nests}
use Rattle.cg_desc.specs.declared.crossbar.NodeDesc.{NodeDesc}
use Rattle.cg_desc.specs.declared.crossbar.Range.{Range}
use Rattle.cg_desc.specs.declared.crossbar.XbarDesc.{XbarDesc}
use Rattle.cg_desc.specs.declared.top.MergedTop.{MergedTop}
use Rattle.cg_desc.specs.declared.top.NodeEnd.TheVariants.{Xbar}
use Rattle.cg_desc.proofs.Numbered.{item_number}
use Rattle.cg_space.specs.Violations.{HasBadRanges, IsBadList, IsInCircle, ShareWithin, SharesWithEarlier}
use Rattle.cg_space.specs.Inner.Coverages.{HasBad, HaveAddress, Meet, MeetWithin}
use Rattle.cg_space.specs.Inner.Marks.{marks_of}
use Rattle.cg_space.specs.Inner.Regions.{Shares}
use Rattle.cg_space.specs.Inner.Sound.{HasNode, IsDeviceAt, IsNestedAt, IsSound}
use Rattle.cg_space.specs.Inner.Tables.{AreLinks, IsKept}
use Rattle.cg_space.specs.Inner.Verdicts.{DevicesMeet, HostMeets, IsCircleVerdict, IsRangeVerdict, MeetsEarlier, SharesSome, SomeHostMeets}
use Rattle.cg_space.specs.declared.coverage.Coverage.{Coverage}
use Rattle.cg_space.proofs.Linking.{leads_reached, links_within, nested_there, reached_leads}
use Rattle.cg_space.proofs.Marking.{marked_is_reached, reached_is_marked}
use Rattle.cg_space.proofs.OneList.{has_once}
use Rattle.cg_space.proofs.Sound.{one_end, one_node, one_there}

-- ---- lists of ranges, by their members and by their places

pub some_of : (rs : List Range) (a : ℕ) → HaveAddress rs a → SomeHolds rs a
some_of [] a h = absurd h
some_of (r ∷ rs) a (inl here) = (r, inl refl, here)
some_of (r ∷ rs) a (inr there) = let s = some_of rs a there in (s.0, inr s.1, s.2)

pub have_of : (rs : List Range) (a : ℕ) → SomeHolds rs a → HaveAddress rs a
have_of [] a h = absurd h.1
have_of (r ∷ rs) a h = by h.1 (λ among. have_of rs a (h.0, among, h.2)) where
  by : Among h.0 (r ∷ rs) → (Among h.0 rs → HaveAddress rs a) → HaveAddress (r ∷ rs) a
  by (inl is) rest = inl (subst (λ (s : Range). RangeHolds s a) is h.2)
  by (inr among) rest = inr (rest among)

pub bad_of : (rs : List Range) → HasBad rs → (r : Range) × Among r rs × ¬ IsRange r
bad_of [] h = absurd h
bad_of (r ∷ rs) (inl bad) = (r, inl refl, bad)
bad_of (r ∷ rs) (inr more) = let s = bad_of rs more in (s.0, inr s.1, s.2)

pub of_bad : (rs : List Range) (r : Range) → Among r rs → ¬ IsRange r → HasBad rs
of_bad [] r among bad = absurd among
of_bad (s ∷ rs) r (inl is) bad = inl (subst (λ (q : Range). ¬ IsRange q) is bad)
of_bad (s ∷ rs) r (inr among) bad = inr (of_bad rs r among bad)

-- one range more in front
shares_later : (r : Range) (rs : List Range) → ShareWithin rs → ShareWithin (r ∷ rs)
shares_later r rs s = (
  suc s.0,
  record {
    i = suc s.1.i;
    order = omega (arith, s.1.order);
    earlier = s.1.earlier;
    later = s.1.later;
    earlier_is = s.1.earlier_is;
    later_is = s.1.later_is;
    address = s.1.address;
    earlier_holds = s.1.earlier_holds;
    later_holds = s.1.later_holds;
  },
)

shares_first : (r : Range) (rs : List Range) → Meet (r ∷ []) rs → ShareWithin (r ∷ rs)
shares_first r rs meet =
    let later = some_of rs meet.address meet.right in
    let number = item_number rs later.0 later.1 in (
      suc number.0,
      record {
        i = 0;
        order = omega arith;
        earlier = r;
        later = later.0;
        earlier_is = refl;
        later_is = number.1;
        address = meet.address;
        earlier_holds = elim meet.left [ inl here ↦ here | inr none ↦ absurd none ];
        later_holds = later.2;
      },
    )

pub share_of : (rs : List Range) → MeetWithin rs → ShareWithin rs
share_of [] h = absurd h
share_of (r ∷ rs) (inl meet) = shares_first r rs meet
share_of (r ∷ rs) (inr more) = shares_later r rs (share_of rs more)

have_at : (rs : List Range) (i a : ℕ) (r : Range) → slice_get rs i ≡ Some r → RangeHolds r a → HaveAddress rs a
have_at [] i a r at h = absurd cc
have_at (s ∷ rs) zero a r at h = let e : s ≡ r = cc in inl (subst (λ (q : Range). RangeHolds q a) (sym e) h)
have_at (s ∷ rs) (suc i) a r at h = inr (have_at rs i a r at h)

meet_at : (rs : List Range) (i j a : ℕ) (r s : Range) → i < j → slice_get rs i ≡ Some r → slice_get rs j ≡ Some s → RangeHolds r a → RangeHolds s a → MeetWithin rs
meet_at [] i j a r s less at there h k = absurd cc
meet_at (q ∷ rs) zero zero a r s less at there h k = absurd (omega (arith, less))
meet_at (q ∷ rs) zero (suc j) a r s less at there h k =
    let e : q ≡ r = cc in
    inl (record { address = a; left = inl (subst (λ (p : Range). RangeHolds p a) (sym e) h); right = have_at rs j a s there k })
meet_at (q ∷ rs) (suc i) zero a r s less at there h k = absurd (omega (arith, less))
meet_at (q ∷ rs) (suc i) (suc j) a r s less at there h k = inr (meet_at rs i j a r s (omega (arith, less)) at there h k)

pub of_share : (rs : List Range) → ShareWithin rs → MeetWithin rs
of_share rs s = meet_at rs s.1.i s.0 s.1.address s.1.earlier s.1.later s.1.order s.1.earlier_is s.1.later_is s.1.earlier_holds s.1.later_holds

-- ---- circles

-- a device that stands for this crossbar is in a circle exactly where it leads back
pub circle_at : (m : MergedTop) (x n y : ℕ) (links : List (List ℕ)) (mark : Bool) → IsSound m → AreLinks m links → IsNestedAt m x n y
    → mark ≡ get_or (marks_of links y) x false → (mark ≡ true) ↔ (IsDeviceAt m x n × IsInCircle m x n)
circle_at m x n y links mark sound are nested is = (to, from) where
  nests : Nests m x y
  nests = record { number = n; device = nested.0.0; is = nested.0.1; is_device = nested.0.2; stands = nested.1 }

  to : mark ≡ true → IsDeviceAt m x n × IsInCircle m x n
  to marked = (nested.0, record { inner = y; stands = nested.1; back = reached_leads m links y x are (marked_is_reached links y x (sym is ∙ marked)) })

  from : (IsDeviceAt m x n × IsInCircle m x n) → mark ≡ true
  from circle =
      let same : Xbar circle.1.inner ≡ Xbar y = one_end m x n (Xbar circle.1.inner) (Xbar y) circle.1.stands nested.1 in
      let inner : circle.1.inner ≡ y = cc in
      is ∙ reached_is_marked links y x (omega (arith, are.count, nested_there m x y sound nests)) (links_within m links sound are)
      (leads_reached m links y x are (subst (λ k. Leads m k x) inner circle.1.back))

-- and what stands for no crossbar is in none
pub no_circle_at : (m : MergedTop) (x n : ℕ) → ((y : ℕ) → ¬ IsNestedAt m x n y) → ¬ (IsDeviceAt m x n × IsInCircle m x n)
no_circle_at m x n none circle = none circle.1.inner (circle.0, circle.1.stands)

-- ---- two devices

pub meet_read : (m : MergedTop) (x c d : ℕ) (p q : Coverage) (told : Bool) → IsSound m → IsKept m x c p → IsKept m x d q → (IsTrue told ↔ Shares p.cells q.cells)
    → IsTrue told ↔ DevicesMeet m x c d
meet_read m x c d p q told sound here there exact = (
  λ h. let s = exact.0 h in record {
    first = here.0;
    first_has = here.1;
    second = there.0;
    second_has = there.1;
    address = s.address;
    first_holds = some_of here.0 s.address ((here.2.covers s.address).0 s.in_left);
    second_holds = some_of there.0 s.address ((there.2.covers s.address).0 s.in_right);
  },
  λ meet. exact.1 (record {
    address = meet.address;
    in_left = (here.2.covers meet.address).1 (have_of here.0 meet.address
        (subst (λ (l : List Range). SomeHolds l meet.address) (has_once m sound x c meet.first here.0 meet.first_has here.1) meet.first_holds));
    in_right = (there.2.covers meet.address).1 (have_of there.0 meet.address
        (subst (λ (l : List Range). SomeHolds l meet.address) (has_once m sound x d meet.second there.0 meet.second_has there.1) meet.second_holds));
  }),
)

-- ---- ranges

or_true : (a b : Bool) → ((a || b) ≡ true) ↔ ((a ≡ true) ⊎ (b ≡ true))
or_true true b = (λ h. inl refl, λ h. refl)
or_true false b = (λ h. inr h, λ h. elim h [ inl one ↦ absurd (false≢true one) | inr two ↦ two ])

-- a device has bad ranges exactly where its coverage tells so
pub bad_exact : (m : MergedTop) (x n : ℕ) (c : Coverage) → IsSound m → IsDeviceAt m x n → IsKept m x n c
    → ((c.is_empty || c.is_bad) ≡ true) ↔ (IsDeviceAt m x n × HasBadRanges m x n)
bad_exact m x n c sound device kept = (
  λ h. (
    device,
    (
      kept.0,
      kept.1,
      elim ((or_true c.is_empty c.is_bad).0 h) [
        | inl empty ↦ inl (kept.2.empty.0 empty)
        | inr bad ↦ inr (bad_of kept.0 (kept.2.bad.0 bad))
      ],
    ),
  ),
  λ has. by has.1.2 (has_once m sound x n has.1.0 kept.0 has.1.1 kept.1),
) where
  by : {rs : List Range} → IsBadList rs → rs ≡ kept.0 → (c.is_empty || c.is_bad) ≡ true
  by (inl none) same = (or_true c.is_empty c.is_bad).1 (inl (kept.2.empty.1 (sym same ∙ none)))
  by (inr bad) same =
      (or_true c.is_empty c.is_bad).1 (inr (kept.2.bad.1 (subst (λ (l : List Range). HasBad l) same (of_bad _ bad.0 bad.1 bad.2))))

-- a host that meets an earlier device
meets_of : (m : MergedTop) (x n : ℕ) (xbar : XbarDesc) (rs : List Range) → IsSound m → CrossbarIs (design_of m) x xbar → HasRanges m x n rs → SomeHostMeets m x n
    → SharesWithEarlier m x n xbar rs
meets_of m x n xbar rs sound is has some =
    let host = some.1.0 in
    let at = some.1.1 in
    let earlier = some.1.4 in
    let same : at.crossbar ≡ xbar = one_there m.xbars x at.crossbar xbar at.crossbar_is is in
    let here = subst (λ (c : XbarDesc). slice_get c.nodes some.0 ≡ Some host) same at.is in
    let meet = earlier.3 in
    record {
      device = earlier.0;
      order = earlier.2;
      its_ranges = meet.first;
      has = meet.first_has;
      host = some.0;
      to_earlier = (host, here, some.1.2, earlier.1);
      to_later = (host, here, some.1.2, some.1.3);
      address = meet.address;
      earlier_holds = meet.first_holds;
      later_holds = subst (λ (l : List Range). SomeHolds l meet.address) (has_once m sound x n meet.second rs meet.second_has has) meet.second_holds;
    }

of_meets : (m : MergedTop) (x n : ℕ) (xbar : XbarDesc) (rs : List Range) → CrossbarIs (design_of m) x xbar → HasRanges m x n rs → SharesWithEarlier m x n xbar rs
    → SomeHostMeets m x n
of_meets m x n xbar rs is has s =
    let same : s.to_later.0 ≡ s.to_earlier.0 = one_there xbar.nodes s.host s.to_later.0 s.to_earlier.0 s.to_later.1 s.to_earlier.1 in (
      s.host,
      (
        s.to_later.0,
        record { crossbar = xbar; crossbar_is = is; is = s.to_later.1 },
        s.to_later.2,
        s.to_later.3,
        (
          s.device,
          subst (λ (h : NodeDesc). Among s.device h.to) (sym same) s.to_earlier.3,
          s.order,
          record {
            first = s.its_ranges;
            first_has = s.has;
            second = rs;
            second_has = has;
            address = s.address;
            first_holds = s.earlier_holds;
            second_holds = s.later_holds;
          },
        ),
      ),
    )

-- a device has a shared range exactly where its coverage tells so, or a host meets it
pub shared_exact : (m : MergedTop) (x n : ℕ) (c : Coverage) (meets : Bool) → IsSound m → IsDeviceAt m x n → IsKept m x n c → (IsTrue meets ↔ SomeHostMeets m x n)
    → ((c.is_shared || meets) ≡ true) ↔ (IsDeviceAt m x n × SharesSome m x n)
shared_exact m x n c meets sound device kept exact = (
  λ h. (
    device,
    (
      device.1.crossbar,
      device.1.crossbar_is,
      (
        kept.0,
        kept.1,
        elim ((or_true c.is_shared meets).0 h) [
          | inl one ↦ inl (share_of kept.0 (kept.2.shared.0 one))
          | inr two ↦ inr (meets_of m x n device.1.crossbar kept.0 sound device.1.crossbar_is kept.1 (exact.0 two))
        ],
      ),
    ),
  ),
  λ has. by has.1.0 has.1.1 has.1.2.0 has.1.2.1 has.1.2.2,
) where
  by : (xbar : XbarDesc) → CrossbarIs (design_of m) x xbar → (rs : List Range) → HasRanges m x n rs → ShareWithin rs ⊎ SharesWithEarlier m x n xbar rs → (c.is_shared || meets) ≡ true
  by xbar is rs has (inl within) =
      (or_true c.is_shared meets).1 (inl (kept.2.shared.1 (of_share kept.0 (subst (λ (l : List Range). ShareWithin l) (has_once m sound x n rs kept.0 has kept.1) within))))
  by xbar is rs has (inr earlier) = (or_true c.is_shared meets).1 (inr (exact.1 (of_meets m x n xbar rs is has earlier)))

-- ---- loops

-- none of the first k of these devices meets device n
abbrev pub NoneMeets : MergedTop → ℕ → List ℕ → ℕ → ℕ → Type 0
NoneMeets m x to n k = (i d : ℕ) → i < k → slice_get to i ≡ Some d → d < n → ¬ DevicesMeet m x d n

pub none_meets_more : (m : MergedTop) (x n k : ℕ) (to : List ℕ) (d : ℕ) → slice_get to k ≡ Some d → ¬ ((d < n) × DevicesMeet m x d n) → NoneMeets m x to n k → NoneMeets m x to n (k + 1)
none_meets_more m x n k to d at not none i e less is = by (cases_lt i k) where
  by : (i < k) ⊎ (k ≤ i) → e < n → ¬ DevicesMeet m x e n
  by (inl below) low = none i e below is low
  by (inr above) low =
      let same : i ≡ k = omega (arith, less, above) in
      let one : d ≡ e = one_there to k d e at (subst (λ j. slice_get to j ≡ Some e) same is) in
      λ meet. not (rw one low, subst (λ j. DevicesMeet m x j n) (sym one) meet)

pub none_meets_all : (m : MergedTop) (x n k : ℕ) (to : List ℕ) → length to ≤ k → NoneMeets m x to n k → ¬ MeetsEarlier m x to n
none_meets_all m x n k to all none meets =
    let number = item_number to meets.0 meets.1 in
    none number.0 meets.0 (omega (arith, all, slice_get_within to number.0 meets.0 number.1)) number.1 meets.2 meets.3

-- none of the first k hosts meets device n
abbrev pub NoHostMeets : MergedTop → ℕ → ℕ → ℕ → Type 0
NoHostMeets m x n k = (h : ℕ) → h < k → ¬ HostMeets m x h n

pub no_host_more : (m : MergedTop) (x n k : ℕ) → ¬ HostMeets m x k n → NoHostMeets m x n k → NoHostMeets m x n (k + 1)
no_host_more m x n k not none h less = by (cases_lt h k) where
  by : (h < k) ⊎ (k ≤ h) → ¬ HostMeets m x h n
  by (inl below) = none h below
  by (inr above) = let same : h ≡ k = omega (arith, less, above) in subst (λ j. ¬ HostMeets m x j n) (sym same) not

pub no_host_all : (m : MergedTop) (x n k : ℕ) → ((h : ℕ) → (h < k) ↔ HasNode m x h) → NoHostMeets m x n k → ¬ SomeHostMeets m x n
no_host_all m x n k nodes none some = none some.0 ((nodes some.0).1 (some.1.0, some.1.1)) some.1

-- no number so far is this one
abbrev pub NoneIs : List ℕ → ℕ → ℕ → Type 0
NoneIs xs y k = (i x : ℕ) → i < k → slice_get xs i ≡ Some x → x ≢ y

pub none_is_more : (xs : List ℕ) (y k x : ℕ) → slice_get xs k ≡ Some x → x ≢ y → NoneIs xs y k → NoneIs xs y (k + 1)
none_is_more xs y k x at not none i z less is = by (cases_lt i k) where
  by : (i < k) ⊎ (k ≤ i) → z ≢ y
  by (inl below) = none i z below is
  by (inr above) =
      let same : i ≡ k = omega (arith, less, above) in
      let one : x ≡ z = one_there xs k x z at (subst (λ j. slice_get xs j ≡ Some z) same is) in
      subst (λ j. j ≢ y) one not

pub none_is_all : (xs : List ℕ) (y k : ℕ) → length xs ≤ k → NoneIs xs y k → ¬ Among y xs
none_is_all xs y k all none among =
    let number = item_number xs y among in
    none number.0 y (omega (arith, all, slice_get_within xs number.0 y number.1)) number.1 refl

-- ---- marks that are read

pub marks_read : (marks : List (List Bool)) (y : ℕ) (read want : List Bool) → y < length marks → read ≡ get_or marks y read → get_or marks y [] ≡ want → read ≡ want
marks_read marks y read want there is wanted =
    is ∙ get_or_from_slice_get marks y (get_or marks y []) read (slice_get-get_or marks y [] there) ∙ wanted

pub circle_verdict_is : (m : MergedTop) (x n : ℕ) (mark : Bool) → (mark ≡ true) ↔ (IsDeviceAt m x n × IsInCircle m x n)
    → IsCircleVerdict m x n (record { is_in_circle = mark; is_bad = false; is_shared = false })
circle_verdict_is m x n mark exact = record {
  circle = exact;
  bad = (λ h. false≢true h, λ none. absurd none);
  shared = (λ h. false≢true h, λ none. absurd none);
}

pub range_verdict_is : (m : MergedTop) (x n : ℕ) (bad shared : Bool) → (bad ≡ true) ↔ (IsDeviceAt m x n × HasBadRanges m x n)
    → (shared ≡ true) ↔ (IsDeviceAt m x n × SharesSome m x n) → IsRangeVerdict m x n (record { is_in_circle = false; is_bad = bad; is_shared = shared })
range_verdict_is m x n bad shared p q = record { circle = (λ h. false≢true h, λ none. absurd none); bad = p; shared = q }

-- a host has no wrong ranges
pub host_verdict : (m : MergedTop) (x n : ℕ) (node : NodeDesc) → NodeAt m x n node → node.host ≡ true
    → IsRangeVerdict m x n (record { is_in_circle = false; is_bad = false; is_shared = false })
host_verdict m x n node at is_host = range_verdict_is m x n false false
    (λ h. absurd (false≢true h), λ has. absurd (not_device has.0))
    (λ h. absurd (false≢true h), λ has. absurd (not_device has.0))
  where
    not_device : ¬ IsDeviceAt m x n
    not_device device = false≢true (sym device.2 ∙ ap (λ (d : NodeDesc). d.host) (one_node m x n device.0 node device.1 at) ∙ is_host)
