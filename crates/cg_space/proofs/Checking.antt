-- What all verdicts say of a merged top.
use Rattle.std.proofs.Common.{◌≡◌, ℕ, zero, suc, ◌<◌, ◌≤◌, Bool, false, List, [], ◌∷◌, ◌⊎◌, inl, inr, Some, Result, Ok, Err, length, map, get_or, slice_get, refl, ap, ◌∙◌, subst, arith}
use Rattle.std.proofs.lemmas.Bool.{cases_lt}
use Rattle.std.proofs.lemmas.Option.{slice_get_within}
use Rattle.cg_desc.specs.Ends.{CrossbarIs}
use Rattle.cg_desc.specs.Merged.{design_of, NodeAt}
use Rattle.cg_desc.specs.Reach.{NoCircle}
use Rattle.cg_desc.specs.declared.crossbar.NodeDesc.{NodeDesc}
use Rattle.cg_desc.specs.declared.crossbar.XbarDesc.{XbarDesc}
use Rattle.cg_desc.specs.declared.fault.Fault.{Fault}
use Rattle.cg_desc.specs.declared.fault.DescFault.{DescFault}
use Rattle.cg_desc.specs.declared.fault.DescFault.TheVariants as refusal
use Rattle.cg_desc.specs.declared.top.MergedTop.{MergedTop}
use Rattle.cg_desc.proofs.Numbered.{item_at}
use Rattle.cg_finding.specs.Finding.{Finding, in_file}
use Rattle.cg_finding.specs.Rules as rules
use Rattle.cg_space.specs.Answers.{Answers}
use Rattle.cg_space.specs.Violations.{DeviceAt, HasSharedRange, IsInCircle, NoViolation, Violates}
use Rattle.cg_space.specs.Inner.Marks.{AreMarks, count, rank}
use Rattle.cg_space.specs.Inner.Sound.{IsDeviceAt, IsSound}
use Rattle.cg_space.specs.Inner.Tables.{AreLinks, RanksFall}
use Rattle.cg_space.specs.Inner.Verdicts.{Circles, FaultOfAll, HaveVerdicts, IsCircleVerdict, IsRangeVerdict, Judges, SharesSome, Tells, WrongRanges}
use Rattle.cg_space.specs.declared.verdict.Verdict.{Verdict}
use Rattle.cg_space.proofs.Linking.{links_within, no_loop}
use Rattle.cg_space.proofs.Marking.{rank_falls, rank_within}
use Rattle.cg_space.proofs.Sound.{one_node, one_there, xbar_within}

-- ---- devices, and their verdicts

-- a node with a device's number is that device
device_of : (m : MergedTop) (x n : ℕ) (xbar : XbarDesc) (node : NodeDesc) → CrossbarIs (design_of m) x xbar → NodeAt m x n node → IsDeviceAt m x n → DeviceAt m x n xbar node
device_of m x n xbar node is at device = record {
  crossbar_is = is;
  is = subst (λ (c : XbarDesc). slice_get c.nodes n ≡ Some node) (one_there m.xbars x at.crossbar xbar at.crossbar_is is) at.is;
  is_device = subst (λ (d : NodeDesc). d.host ≡ false) (one_node m x n device.0 node device.1 at) device.2;
}

node_of : (m : MergedTop) (x n : ℕ) (xbar : XbarDesc) (node : NodeDesc) → DeviceAt m x n xbar node → NodeAt m x n node
node_of m x n xbar node device = record { crossbar = xbar; crossbar_is = device.crossbar_is; is = device.is }

-- a device's verdict
record Judged (m : MergedTop) (Is : ℕ → ℕ → Verdict → Type 0) (all : List (List Verdict)) (x n : ℕ) (xbar : XbarDesc) (node : NodeDesc) : Type 0 where
  verdicts : List Verdict
  verdicts_are : slice_get all x ≡ Some verdicts
  verdict : Verdict
  verdict_is : slice_get verdicts n ≡ Some verdict
  says : Is x n verdict

judged_at : (m : MergedTop) (Is : ℕ → ℕ → Verdict → Type 0) (all : List (List Verdict)) (x n : ℕ) (xbar : XbarDesc) (node : NodeDesc) → HaveVerdicts m Is all → DeviceAt m x n xbar node
    → Judged m Is all x n xbar node
judged_at m Is all x n xbar node have device =
    let at = item_at all x (omega (arith, have.counts.count, slice_get_within m.xbars x xbar device.crossbar_is)) in
    let there = item_at at.0 n (omega (arith, have.counts.each x at.0 xbar at.1 device.crossbar_is, slice_get_within xbar.nodes n node device.is)) in
    record { verdicts = at.0; verdicts_are = at.1; verdict = there.0; verdict_is = there.1; says = have.each x n at.0 there.0 at.1 there.1 }

-- what a device's verdict tells is a fault
told_fault : (m : MergedTop) (Is : ℕ → ℕ → Verdict → Type 0) (all : List (List Verdict)) (x n : ℕ) (xbar : XbarDesc) (node : NodeDesc) (g : Finding) (f : Fault)
    → DeviceAt m x n xbar node → (j : Judged m Is all x n xbar node) → Tells node j.verdict g → f ≡ in_file xbar.file g → FaultOfAll m all f
told_fault m Is all x n xbar node g f device j tells says = record {
  number = x;
  below = slice_get_within m.xbars x xbar device.crossbar_is;
  verdicts = j.verdicts;
  verdicts_are = j.verdicts_are;
  fault = record {
    xbar = xbar;
    crossbar_is = device.crossbar_is;
    finding = g;
    tells = (n, record { node = node; is = node_of m x n xbar node device; verdict = j.verdict; verdict_is = j.verdict_is; tells = tells });
    says = says;
  };
}

-- ---- circles

circle_told : (m : MergedTop) (x n : ℕ) (xbar : XbarDesc) (node : NodeDesc) (v : Verdict) (g : Finding) (f : Fault) → CrossbarIs (design_of m) x xbar → NodeAt m x n node
    → IsCircleVerdict m x n v → f ≡ in_file xbar.file g → Tells node v g → Circles m f
circle_told m x n xbar node v g f is at says file (Tells.circle h) =
    let known = says.circle.0 h in
    record { x = x; n = n; xbar = xbar; node = node; device = device_of m x n xbar node is at known.0; circle = known.1; says = file }
circle_told m x n xbar node v g f is at says file (Tells.bad_range h) = absurd (says.bad.0 h)
circle_told m x n xbar node v g f is at says file (Tells.overlap h) = absurd (says.shared.0 h)

pub circles_sound : (m : MergedTop) (all : List (List Verdict)) → HaveVerdicts m (IsCircleVerdict m) all → (f : Fault) → FaultOfAll m all f → Circles m f
circles_sound m all have f b =
    let tells = b.fault.tells.1 in
    circle_told m b.number b.fault.tells.0 b.fault.xbar tells.node tells.verdict b.fault.finding f b.fault.crossbar_is tells.is
    (have.each b.number b.fault.tells.0 b.verdicts tells.verdict b.verdicts_are tells.verdict_is) b.fault.says tells.tells

pub circles_complete : (m : MergedTop) (all : List (List Verdict)) → HaveVerdicts m (IsCircleVerdict m) all → (f : Fault) → Circles m f → FaultOfAll m all f
circles_complete m all have f c =
    let j = judged_at m (IsCircleVerdict m) all c.x c.n c.xbar c.node have c.device in
    let device : IsDeviceAt m c.x c.n = (c.node, node_of m c.x c.n c.xbar c.node c.device, c.device.is_device) in
    told_fault m (IsCircleVerdict m) all c.x c.n c.xbar c.node _ f c.device j (Tells.circle (j.says.circle.1 (device, c.circle))) c.says

-- ---- ranges

one_crossbar : (m : MergedTop) (x n : ℕ) (xbar : XbarDesc) → CrossbarIs (design_of m) x xbar → SharesSome m x n → HasSharedRange m x n xbar
one_crossbar m x n xbar is shares = subst (λ (c : XbarDesc). HasSharedRange m x n c) (one_there m.xbars x shares.0 xbar shares.1 is) shares.2

range_told : (m : MergedTop) (x n : ℕ) (xbar : XbarDesc) (node : NodeDesc) (v : Verdict) (g : Finding) (f : Fault) → CrossbarIs (design_of m) x xbar → NodeAt m x n node
    → IsRangeVerdict m x n v → f ≡ in_file xbar.file g → Tells node v g → WrongRanges m f
range_told m x n xbar node v g f is at says file (Tells.circle h) = absurd (says.circle.0 h)
range_told m x n xbar node v g f is at says file (Tells.bad_range h) =
    let known = says.bad.0 h in WrongRanges.bad x n xbar node (device_of m x n xbar node is at known.0) known.1 file
range_told m x n xbar node v g f is at says file (Tells.overlap h) =
    let known = says.shared.0 h in WrongRanges.shared x n xbar node (device_of m x n xbar node is at known.0) (one_crossbar m x n xbar is known.1) file

pub ranges_sound : (m : MergedTop) (all : List (List Verdict)) → HaveVerdicts m (IsRangeVerdict m) all → (f : Fault) → FaultOfAll m all f → WrongRanges m f
ranges_sound m all have f b =
    let tells = b.fault.tells.1 in
    range_told m b.number b.fault.tells.0 b.fault.xbar tells.node tells.verdict b.fault.finding f b.fault.crossbar_is tells.is
    (have.each b.number b.fault.tells.0 b.verdicts tells.verdict b.verdicts_are tells.verdict_is) b.fault.says tells.tells

pub ranges_complete : (m : MergedTop) (all : List (List Verdict)) → HaveVerdicts m (IsRangeVerdict m) all → (f : Fault) → WrongRanges m f → FaultOfAll m all f
ranges_complete m all have f (WrongRanges.bad x n xbar node device bad says) =
    let j = judged_at m (IsRangeVerdict m) all x n xbar node have device in
    let at : IsDeviceAt m x n = (node, node_of m x n xbar node device, device.is_device) in
    told_fault m (IsRangeVerdict m) all x n xbar node _ f device j (Tells.bad_range (j.says.bad.1 (at, bad))) says
ranges_complete m all have f (WrongRanges.shared x n xbar node device shared says) =
    let j = judged_at m (IsRangeVerdict m) all x n xbar node have device in
    let at : IsDeviceAt m x n = (node, node_of m x n xbar node device, device.is_device) in
    let some : SharesSome m x n = (xbar, device.crossbar_is, shared) in
    told_fault m (IsRangeVerdict m) all x n xbar node _ f device j (Tells.overlap (j.says.shared.1 (at, some))) says

-- ---- answers

pub judges_as : {X : Type 0} (r : Result X DescFault) (P Q : Fault → Type 0) → ((f : Fault) → P f → Q f) → ((f : Fault) → Q f → P f) → Judges r P → Judges r Q
judges_as (Ok x) P Q to from none = λ f broken. none f (from f broken)
judges_as (Err (refusal.Fault fault)) P Q to from first = record { violates = to fault first.violates; least = λ other broken. first.least other (from other broken) }
judges_as (Err refusal.Memory) P Q to from first = tt

pub no_circle : (m : MergedTop) → ((f : Fault) → ¬ Circles m f) → NoCircle m
no_circle m none x y nests leads =
    none (in_file nests.is.crossbar.file (rules.crossbars_in_a_circle nests.device.at nests.device.name)) (record {
      x = x;
      n = nests.number;
      xbar = nests.is.crossbar;
      node = nests.device;
      device = record { crossbar_is = nests.is.crossbar_is; is = nests.is.is; is_device = nests.is_device };
      circle = record { inner = y; stands = nests.stands; back = leads };
      says = refl;
    })

-- a circle is one
circle_closed : (m : MergedTop) (x n : ℕ) (xbar : XbarDesc) (node : NodeDesc) → NoCircle m → DeviceAt m x n xbar node → ¬ IsInCircle m x n
circle_closed m x n xbar node free device circle =
    free x circle.inner (record { number = n; device = node; is = node_of m x n xbar node device; is_device = device.is_device; stands = circle.stands }) circle.back

circle_violates : (m : MergedTop) (f : Fault) → Circles m f → Violates m f
circle_violates m f c = rw c.says (Violates.circle c.x c.n c.xbar c.node c.device c.circle)

violates_circle : (m : MergedTop) (f : Fault) → (NoCircle m → ⊥) → Violates m f → Circles m f
violates_circle m f some (Violates.circle x n xbar node device circle) = record { x = x; n = n; xbar = xbar; node = node; device = device; circle = circle; says = refl }
violates_circle m f some (Violates.bad_range x n xbar node free device bad) = absurd (some free)
violates_circle m f some (Violates.overlap x n xbar node free device shared) = absurd (some free)

pub refused_circle : {X : Type 0} (m : MergedTop) (P : X → Type 0) (e : DescFault) → Judges {X = Unit {0}} (Err e) (Circles m) → Answers (Err e) m P
refused_circle m P (refusal.Fault fault) first =
    let c = first.violates in
    let some = λ (free : NoCircle m). circle_closed m c.x c.n c.xbar c.node free c.device c.circle in
    record { violates = circle_violates m fault c; least = λ other broken. first.least other (violates_circle m other some broken) }
refused_circle m P refusal.Memory first = tt

wrong_violates : (m : MergedTop) (f : Fault) → NoCircle m → WrongRanges m f → Violates m f
wrong_violates m f free (WrongRanges.bad x n xbar node device bad says) = rw says (Violates.bad_range x n xbar node free device bad)
wrong_violates m f free (WrongRanges.shared x n xbar node device shared says) = rw says (Violates.overlap x n xbar node free device shared)

violates_wrong : (m : MergedTop) (f : Fault) → NoCircle m → Violates m f → WrongRanges m f
violates_wrong m f free (Violates.circle x n xbar node device circle) = absurd (circle_closed m x n xbar node free device circle)
violates_wrong m f free (Violates.bad_range x n xbar node _ device bad) = WrongRanges.bad x n xbar node device bad refl
violates_wrong m f free (Violates.overlap x n xbar node _ device shared) = WrongRanges.shared x n xbar node device shared refl

pub refused_ranges : {X : Type 0} (m : MergedTop) (P : X → Type 0) (e : DescFault) → NoCircle m → Judges {X = Unit {0}} (Err e) (WrongRanges m) → Answers (Err e) m P
refused_ranges m P (refusal.Fault fault) free first =
    record { violates = wrong_violates m fault free first.violates; least = λ other broken. first.least other (violates_wrong m other free broken) }
refused_ranges m P refusal.Memory free first = tt

pub no_violation : (m : MergedTop) → NoCircle m → ((f : Fault) → ¬ WrongRanges m f) → NoViolation m
no_violation m free none f broken = none f (violates_wrong m f free broken)

-- ---- ranks

get_map : (marks : List (List Bool)) (x : ℕ) → get_or (map count marks) x 0 ≡ count (get_or marks x [])
get_map [] x = refl
get_map (m ∷ ms) zero = refl
get_map (m ∷ ms) (suc x) = get_map ms x

past : (marks : List (List Bool)) (x : ℕ) → length marks ≤ x → get_or marks x [] ≡ []
past [] x h = refl
past (m ∷ ms) zero h = absurd (omega (arith, h))
past (m ∷ ms) (suc x) h = past ms x (omega (arith, h))

rank_is : (links : List (List ℕ)) (marks : List (List Bool)) (x : ℕ) → AreMarks links marks → x < length links → get_or (map count marks) x 0 ≡ rank links x
rank_is links marks x are h = get_map marks x ∙ ap count (are.each x h)

pub ranks_within : (m : MergedTop) (links : List (List ℕ)) (marks : List (List Bool)) → AreLinks m links → AreMarks links marks → (x : ℕ) → get_or (map count marks) x 0 ≤ length m.xbars
ranks_within m links marks are marked x = by (cases_lt x (length links)) where
  by : (x < length links) ⊎ (length links ≤ x) → get_or (map count marks) x 0 ≤ length m.xbars
  by (inl below) = omega (arith, rank_is links marks x marked below, rank_within links x, are.count)
  by (inr above) =
      let none = get_map marks x ∙ ap count (past marks x (omega (arith, above, marked.count))) in
      omega (arith, none)

pub ranks_fall : (m : MergedTop) (links : List (List ℕ)) (marks : List (List Bool)) → IsSound m → AreLinks m links → AreMarks links marks → NoCircle m → RanksFall m (map count marks)
ranks_fall m links marks sound are marked free x y nests =
    let here : x < length links = omega (arith, are.count, xbar_within m x nests.number (nests.device, nests.is)) in
    let link = (are.each x y).1 nests in
    let there : y < length links = link_there in
    let falls = rank_falls links x y (links_within m links sound are) (no_loop m links are free) here link in
    omega (arith, falls, rank_is links marks x marked here, rank_is links marks y marked there)
  where
    link_there : y < length links
    link_there =
        let inner = sound.inner x nests.number y ((nests.device, nests.is, nests.is_device), nests.stands) in
        omega (arith, are.count, xbar_within m y inner.0 (inner.1, inner.2.is))

pub length_map : {X Y : Type 0} (f : X → Y) (xs : List X) → length (map f xs) ≡ length xs
length_map f [] = refl
length_map f (x ∷ xs) = ap suc (length_map f xs)
