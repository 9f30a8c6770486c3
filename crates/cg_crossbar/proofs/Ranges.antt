-- The ranges of a crossbar that stands alone are those that are written.
use Rattle.std.proofs.Common.{◌≡◌, ◌<◌, ℕ, zero, suc, length, map, List, [], ◌∷◌, Some, true, false, refl, sym, ap, ◌∙◌, subst, inl, inr, arith}
use Rattle.std.specs.Prelude.{slice_get, Bool, cond}
use Rattle.cg_svspec.specs.Names.{Among}
use Rattle.cg_svspec.specs.Printable.{AllOf, IsSomeOf}
use Rattle.cg_desc.specs.Crossbar.{IsValidCrossbar}
use Rattle.cg_desc.specs.Ends.{CrossbarIs}
use Rattle.cg_desc.specs.Merged.{alone, all_outside, design_of, EndAt, NodeAt, IsValidMerged, of_crossbar}
use Rattle.cg_desc.specs.Ranges.{RangesAre, HasAddress, IsRange, SomeHolds, AreRangesOf}
use Rattle.cg_desc.specs.Reach.{HasRanges, interface, outside, nested}
use Rattle.cg_desc.specs.declared.crossbar.NodeDesc.{NodeDesc}
use Rattle.cg_desc.specs.declared.crossbar.NodeRanges.{NodeRanges}
use Rattle.cg_desc.specs.declared.crossbar.Range.{Range}
use Rattle.cg_desc.specs.declared.crossbar.XbarDesc.{XbarDesc}
use Rattle.cg_desc.specs.declared.top.MergedTop.{MergedTop}
use Rattle.cg_desc.specs.declared.top.NodeEnd.{NodeEnd}
use Rattle.cg_desc.specs.declared.top.NodeEnd.TheVariants.{Face, Xbar, Outside}
use Rattle.cg_desc.specs.declared.top.XbarEnds.{XbarEnds}
use Rattle.cg_space.specs.Answers.{AreNodeRanges}
use Rattle.cg_space.specs.Violations.{IsBadList, ShareWithin, SharesWithEarlier, NoViolation, circle, bad_range, overlap}
use Rattle.cg_crossbar.specs.Outputs.{written_for, written_ranges}

one_less : (a b : ℕ) → suc a ≡ suc b → a ≡ b
one_less a b e = cc

-- each entry is what is written for its node
lists_are : (entries : List NodeRanges) (nodes : List NodeDesc) → length entries ≡ length nodes
    → ((n : ℕ) (node : NodeDesc) (entry : NodeRanges) → slice_get nodes n ≡ Some node → slice_get entries n ≡ Some entry → entry ≡ written_for node) → entries ≡ map written_for nodes
lists_are [] [] same each = refl
lists_are (e ∷ es) (n ∷ ns) same each =
    (λ i. each 0 n e refl refl i ∷ lists_are es ns (one_less (length es) (length ns) same) (λ k node entry is is'. each (suc k) node entry is is') i)
lists_are [] (n ∷ ns) same each = absurd (let bad : 0 ≡ suc (length ns) = same in cc)
lists_are (e ∷ es) [] same each = absurd (let bad : suc (length es) ≡ 0 = same in cc)

-- every node is outside
all_are_outside : (nodes : List NodeDesc) (n : ℕ) (e : NodeEnd) → slice_get (all_outside nodes) n ≡ Some e → e ≡ Outside
all_are_outside [] n e is = absurd (nothing_there n e is) where
  nothing_there : (n : ℕ) (e : NodeEnd) → slice_get {X = NodeEnd} [] n ≡ Some e → ⊥
  nothing_there n e is = cc
all_are_outside (node ∷ nodes) zero e is = cc
all_are_outside (node ∷ nodes) (suc n) e is = all_are_outside nodes n e is

-- there is one crossbar
pub only_crossbar : (x : XbarDesc) (k : ℕ) (y : XbarDesc) → slice_get (x ∷ []) k ≡ Some y → (k ≡ 0) × (y ≡ x)
only_crossbar x zero y is = (refl, cc)
only_crossbar x (suc k) y is = absurd (beyond k y is) where
  beyond : (k : ℕ) (y : XbarDesc) → slice_get {X = XbarDesc} [] k ≡ Some y → ⊥
  beyond k y is = cc

only_ends : (es : XbarEnds) (k : ℕ) (other : XbarEnds) → slice_get (es ∷ []) k ≡ Some other → other ≡ es
only_ends es zero other is = cc
only_ends es (suc k) other is = absurd (beyond k other is) where
  beyond : (k : ℕ) (other : XbarEnds) → slice_get {X = XbarEnds} [] k ≡ Some other → ⊥
  beyond k other is = cc

outside_alone : (x : XbarDesc) (k n : ℕ) (e : NodeEnd) → EndAt (alone x) k n e → e ≡ Outside
outside_alone x k n e (ends, is, at) =
    all_are_outside x.nodes n e (subst (λ (z : XbarEnds). slice_get z.ends n ≡ Some e) (only_ends (record { ends = all_outside x.nodes }) k ends is) at)

the_node : (x : XbarDesc) (k n : ℕ) (node : NodeDesc) → NodeAt (alone x) k n node → slice_get x.nodes n ≡ Some node
the_node x k n node at = subst (λ (z : XbarDesc). slice_get z.nodes n ≡ Some node) (only_crossbar x k at.crossbar at.crossbar_is).1 at.is

-- a node has the ranges that are written for it
ranges_alone : (x : XbarDesc) (k n : ℕ) (node : NodeDesc) (rs : List Range) → slice_get x.nodes n ≡ Some node → HasRanges (alone x) k n rs → rs ≡ node.ranges
ranges_alone x k n node _ is (interface i f base face end at has) = absurd (let bad : Face i f ≡ Outside = outside_alone x k n (Face i f) end in cc)
ranges_alone x k n node _ is (outside other at end) =
    let same : Some other ≡ Some node = sym (the_node x k n other at) ∙ is in
    let one : other ≡ node = cc in
    ap (λ (z : NodeDesc). z.ranges) one
ranges_alone x k n node _ is (nested {rs} y h host end inner have) = absurd (let bad : Xbar y ≡ Outside = outside_alone x k n (Xbar y) end in cc)

by_side : (x : XbarDesc) (entries : List NodeRanges) → AreNodeRanges (alone x) 0 entries → (n : ℕ) (node : NodeDesc) (entry : NodeRanges) (side : Bool) → side ≡ node.host
    → slice_get x.nodes n ≡ Some node → slice_get entries n ≡ Some entry → entry.ranges ≡ cond side [] node.ranges
by_side x entries are n node entry true host is is' = are.hosts n node entry (record { crossbar = x; crossbar_is = refl; is = is }) (sym host) is'
by_side x entries are n node entry false host is is' =
    ranges_alone x 0 n node entry.ranges is (are.devices n node entry (record { crossbar = x; crossbar_is = refl; is = is }) (sym host) is')

-- the ranges that count are those that are written
pub written_are : (x : XbarDesc) (entries : List NodeRanges) → AreNodeRanges (alone x) 0 entries → entries ≡ written_ranges x
written_are x entries are =
    lists_are entries x.nodes (are.count x refl)
    (λ n node entry is is'. λ i. record { ranges = by_side x entries are n node entry node.host refl is is' i })

-- ---- ranges that fit break nothing

-- the entry of a device has what is written for it
entry_of : (x : XbarDesc) (n : ℕ) (node : NodeDesc) → slice_get x.nodes n ≡ Some node → RangesAre (written_ranges x) n (written_for node)
entry_of x n node is = at x.nodes n is where
  at : (nodes : List NodeDesc) (n : ℕ) → slice_get nodes n ≡ Some node → slice_get (map written_for nodes) n ≡ Some (written_for node)
  at [] n is = absurd (beyond n is) where
    beyond : (n : ℕ) → slice_get {X = NodeDesc} [] n ≡ Some node → ⊥
    beyond n is = cc
  at (other ∷ nodes) zero is = let same : other ≡ node = cc in ap (λ o. Some (written_for o)) same
  at (other ∷ nodes) (suc n) is = at nodes n is

of_device : (node : NodeDesc) → node.host ≡ false → (written_for node).ranges ≡ node.ranges
of_device node device = ap (λ h. cond h [] node.ranges) device

not_empty : (rs : List Range) → IsSomeOf rs → rs ≡ [] → ⊥
not_empty [] some is = some
not_empty (r ∷ rs) some is = cc

one_of_all : (rs : List Range) (r : Range) → AllOf IsRange rs → Among r rs → IsRange r
one_of_all [] r all among = absurd among
one_of_all (s ∷ rs) r all (inl is) = subst IsRange (sym is) all.0
one_of_all (s ∷ rs) r all (inr there) = one_of_all rs r all.1 there

module _ (x : XbarDesc) (fit : AreRangesOf x (written_ranges x)) where
  -- a device's ranges, as its entry has them
  module _ (k n : ℕ) (node : NodeDesc) (rs : List Range) (is : slice_get x.nodes n ≡ Some node) (device : node.host ≡ false) (has : HasRanges (alone x) k n rs) where
    written : rs ≡ (written_for node).ranges
    written = ranges_alone x k n node rs is has ∙ sym (of_device node device)

    entry : RangesAre (written_ranges x) n (written_for node)
    entry = entry_of x n node is

    not_bad : ¬ IsBadList rs
    not_bad (inl none) = not_empty (written_for node).ranges (fit.some n (written_for node) (node, is, device) entry) (sym written ∙ none)
    not_bad (inr (r, among, wrong)) =
        wrong (one_of_all (written_for node).ranges r (fit.shapes n (written_for node) (node, is, device) entry) (subst (Among r) written among))

    not_within : ¬ ShareWithin rs
    not_within (j, s) =
        let same : s.i ≡ j =
        fit.differ n s.i j s.address (written_for node) s.earlier s.later (node, is, device) entry (subst (λ z. slice_get z s.i ≡ Some s.earlier) written s.earlier_is)
        (subst (λ z. slice_get z j ≡ Some s.later) written s.later_is) s.earlier_holds s.later_holds in
        different s.i j s.order same where
          different : (i j : ℕ) → i < j → i ≡ j → ⊥
          different i j less same = omega (arith, less, same)

    -- the device has the address
    here : (a : ℕ) → SomeHolds rs a → HasAddress (written_ranges x) n a
    here a (r, among, holds) = (written_for node, entry, r, subst (Among r) written among, holds)

  -- a device to which a host connects is one
  not_with_earlier : (k n : ℕ) (node : NodeDesc) (rs : List Range) → slice_get x.nodes n ≡ Some node → node.host ≡ false → HasRanges (alone x) k n rs → IsValidCrossbar x
      → ¬ SharesWithEarlier (alone x) k n x rs
  not_with_earlier k n node rs is device has valid s =
      let other = valid.devices_only s.host s.device s.to_earlier in
      let same : s.device ≡ n =
      fit.apart s.host s.device n s.address s.to_earlier s.to_later (here k s.device other.0 s.its_ranges other.1 other.2 s.has s.address s.earlier_holds) (here k n node rs is device has s.address s.later_holds) in
      different s.device n s.order same where
        different : (i j : ℕ) → i < j → i ≡ j → ⊥
        different i j less same = omega (arith, less, same)

  pub spaced_unbroken : IsValidCrossbar x → NoViolation (alone x)
  spaced_unbroken valid _ (circle k n xbar node at in_circle) =
      absurd (let bad : Xbar in_circle.inner ≡ Outside = outside_alone x k n (Xbar in_circle.inner) in_circle.stands in cc)
  spaced_unbroken valid _ (bad_range k n xbar node none at (rs, has, bad)) =
      let is = subst (λ (z : XbarDesc). slice_get z.nodes n ≡ Some node) (only_crossbar x k xbar at.crossbar_is).1 at.is in
      not_bad k n node rs is at.is_device has bad
  spaced_unbroken valid _ (overlap k n xbar node none at (rs, has, inl within)) =
      let is = subst (λ (z : XbarDesc). slice_get z.nodes n ≡ Some node) (only_crossbar x k xbar at.crossbar_is).1 at.is in
      not_within k n node rs is at.is_device has within
  spaced_unbroken valid _ (overlap k n xbar node none at (rs, has, inr earlier)) =
      let one = (only_crossbar x k xbar at.crossbar_is).1 in
      let is = subst (λ (z : XbarDesc). slice_get z.nodes n ≡ Some node) one at.is in
      not_with_earlier k n node rs is at.is_device has valid (subst (λ (z : XbarDesc). SharesWithEarlier (alone x) k n z rs) one earlier)

-- ---- as the ranges of a merged top that is the crossbar alone

pub valid_alone : (m : MergedTop) (x : XbarDesc) → IsValidCrossbar x → m ≡ alone x → IsValidMerged m
valid_alone m x valid same = of_crossbar x valid same

pub some_crossbar : (m : MergedTop) (x : XbarDesc) → m ≡ alone x → 0 < length m.xbars
some_crossbar m x same = subst (λ t. 0 < length t.xbars) (sym same) (omega arith)

pub fit_here : (m : MergedTop) (x : XbarDesc) (entries : List NodeRanges) → m ≡ alone x → ((y : XbarDesc) → CrossbarIs (design_of m) 0 y → AreRangesOf y entries) → AreRangesOf x entries
fit_here m x entries same fit = fit x (subst (λ t. CrossbarIs (design_of t) 0 x) (sym same) refl)

pub written_here : (m : MergedTop) (x : XbarDesc) (entries : List NodeRanges) → m ≡ alone x → AreNodeRanges m 0 entries → entries ≡ written_ranges x
written_here m x entries same are = written_are x entries (subst (λ t. AreNodeRanges t 0 entries) same are)
