-- What is wrong at each node, and what is told of it.
use Rattle.std.specs.Prelude.{ℕ, ◌≡◌, ◌↔◌, ◌⊎◌, ◌<◌, true, List, length, slice_get, Option, Some, None, Result, Ok, Err}
use Rattle.cg_svspec.specs.Names.{Among}
use Rattle.cg_desc.specs.Ends.{CrossbarIs}
use Rattle.cg_desc.specs.Faults.{Before}
use Rattle.cg_desc.specs.Merged.{design_of, NodeAt}
use Rattle.cg_desc.specs.Ranges.{SomeHolds}
use Rattle.cg_desc.specs.Reach.{HasRanges}
use Rattle.cg_desc.specs.declared.crossbar.NodeDesc.{NodeDesc}
use Rattle.cg_desc.specs.declared.crossbar.Range.{Range}
use Rattle.cg_desc.specs.declared.crossbar.XbarDesc.{XbarDesc}
use Rattle.cg_desc.specs.declared.fault.Fault.{Fault}
use Rattle.cg_desc.specs.declared.fault.DescFault.{DescFault}
use Rattle.cg_desc.specs.declared.fault.DescFault.TheVariants as refusal
use Rattle.cg_desc.specs.declared.top.MergedTop.{MergedTop}
use Rattle.cg_finding.specs.Finding.{Finding, in_file}
use Rattle.cg_finding.specs.Rules as rules
use Rattle.cg_finding.specs.Violations.{IsFirstFault}
use Rattle.cg_space.specs.Violations.{DeviceAt, HasBadRanges, HasSharedRange, IsInCircle}
use Rattle.cg_space.specs.Inner.Sound.{IsDeviceAt}
use Rattle.cg_space.specs.declared.verdict.Verdict.{Verdict}

-- the verdict has each of these flags exactly where this is so
pub record IsVerdict (InCircle Bad Shared : Type 0) (v : Verdict) : Type 0 where
  pub circle : (v.is_in_circle ≡ true) ↔ InCircle
  pub bad : (v.is_bad ≡ true) ↔ Bad
  pub shared : (v.is_shared ≡ true) ↔ Shared

-- devices c and d of crossbar x share an address
pub record DevicesMeet (m : MergedTop) (x c d : ℕ) : Type 0 where
  pub first : List Range
  pub first_has : HasRanges m x c first
  pub second : List Range
  pub second_has : HasRanges m x d second
  pub address : ℕ
  pub first_holds : SomeHolds first address
  pub second_holds : SomeHolds second address

-- one of these devices of crossbar x is below n, and shares an address with device n
abbrev pub MeetsEarlier : MergedTop → ℕ → List ℕ → ℕ → Type 0
MeetsEarlier m x to n = (d : ℕ) × Among d to × (d < n) × DevicesMeet m x d n

-- node h of crossbar x is a host that connects to device n and to an earlier one that shares an address with it
abbrev pub HostMeets : MergedTop → ℕ → ℕ → ℕ → Type 0
HostMeets m x h n = (host : NodeDesc) × NodeAt m x h host × (host.host ≡ true) × Among n host.to × MeetsEarlier m x host.to n

-- some host does
abbrev pub SomeHostMeets : MergedTop → ℕ → ℕ → Type 0
SomeHostMeets m x n = (h : ℕ) × HostMeets m x h n

-- only circles are looked for
abbrev pub IsCircleVerdict : MergedTop → ℕ → ℕ → Verdict → Type 0
IsCircleVerdict m x n v = IsVerdict (IsDeviceAt m x n × IsInCircle m x n) ⊥ ⊥ v

-- a device of crossbar x has a range that shares an address with another
abbrev pub SharesSome : MergedTop → ℕ → ℕ → Type 0
SharesSome m x n = (xbar : XbarDesc) × CrossbarIs (design_of m) x xbar × HasSharedRange m x n xbar

-- only ranges are looked at
abbrev pub IsRangeVerdict : MergedTop → ℕ → ℕ → Verdict → Type 0
IsRangeVerdict m x n v = IsVerdict ⊥ (IsDeviceAt m x n × HasBadRanges m x n) (IsDeviceAt m x n × SharesSome m x n) v

-- ---- what is told

-- what a node's verdict breaks
pub data Tells (node : NodeDesc) (v : Verdict) : Finding → Type 0 where
  circle : v.is_in_circle ≡ true → Tells node v (rules.crossbars_in_a_circle node.at node.name)
  bad_range : v.is_bad ≡ true → Tells node v (rules.bad_range node.at node.name)
  overlap : v.is_shared ≡ true → Tells node v (rules.ranges_overlap node.at node.name)

-- node n of crossbar x breaks it by its verdict
pub record NodeTells (m : MergedTop) (x : ℕ) (verdicts : List Verdict) (n : ℕ) (f : Finding) : Type 0 where
  pub node : NodeDesc
  pub is : NodeAt m x n node
  pub verdict : Verdict
  pub verdict_is : slice_get verdicts n ≡ Some verdict
  pub tells : Tells node verdict f

-- a node of crossbar x does
abbrev pub CrossbarTells : MergedTop → ℕ → List Verdict → Finding → Type 0
CrossbarTells m x verdicts f = (n : ℕ) × NodeTells m x verdicts n f

-- it is a fault of this crossbar's file
pub record FaultOf (m : MergedTop) (x : ℕ) (verdicts : List Verdict) (f : Fault) : Type 0 where
  pub xbar : XbarDesc
  pub crossbar_is : CrossbarIs (design_of m) x xbar
  pub finding : Finding
  pub tells : CrossbarTells m x verdicts finding
  pub says : f ≡ in_file xbar.file finding

-- it is a fault of one of the first k crossbars, each of which has its verdicts
pub record FaultBelow (m : MergedTop) (all : List (List Verdict)) (k : ℕ) (f : Fault) : Type 0 where
  pub number : ℕ
  pub below : number < k
  pub verdicts : List Verdict
  pub verdicts_are : slice_get all number ≡ Some verdicts
  pub fault : FaultOf m number verdicts f

-- a fault of some crossbar
abbrev pub FaultOfAll : MergedTop → List (List Verdict) → Fault → Type 0
FaultOfAll m all f = FaultBelow m all (length m.xbars) f

-- the first fault, and none where there is none
abbrev pub IsFirstIfAny : (Fault → Type 0) → Option Fault → Type 0
IsFirstIfAny Breaks None = (f : Fault) → ¬ Breaks f
IsFirstIfAny Breaks (Some fault) = IsFirstFault Breaks fault

-- of two faults, as far as there are two, the one that is not after the other
abbrev pub IsEarlier : Option Fault → Option Fault → Option Fault → Type 0
IsEarlier None b kept = kept ≡ b
IsEarlier (Some f) None kept = kept ≡ Some f
IsEarlier (Some f) (Some g) kept = ((kept ≡ Some f) × ¬ Before g f) ⊎ ((kept ≡ Some g) × Before g f)

-- a device in a circle, told in its crossbar's file
pub record Circles (m : MergedTop) (f : Fault) : Type 0 where
  pub x : ℕ
  pub n : ℕ
  pub xbar : XbarDesc
  pub node : NodeDesc
  pub device : DeviceAt m x n xbar node
  pub circle : IsInCircle m x n
  pub says : f ≡ in_file xbar.file (rules.crossbars_in_a_circle node.at node.name)

-- a device whose ranges are wrong, or share an address
pub data WrongRanges (m : MergedTop) (f : Fault) : Type 0 where
  bad : (x n : ℕ) (xbar : XbarDesc) (node : NodeDesc) → DeviceAt m x n xbar node → HasBadRanges m x n → f ≡ in_file xbar.file (rules.bad_range node.at node.name) → WrongRanges m f
  shared : (x n : ℕ) (xbar : XbarDesc) (node : NodeDesc) → DeviceAt m x n xbar node → HasSharedRange m x n xbar → f ≡ in_file xbar.file (rules.ranges_overlap node.at node.name) → WrongRanges m f

-- nothing is broken, or the first that is; want of memory says nothing
abbrev pub Judges : {X : Type 0} → Result X DescFault → (Fault → Type 0) → Type 0
Judges (Ok x) Breaks = (f : Fault) → ¬ Breaks f
Judges (Err (refusal.Fault fault)) Breaks = IsFirstFault Breaks fault
Judges (Err refusal.Memory) Breaks = Unit {0}

-- ---- all verdicts

-- each node of crossbar x has its verdict, by what this says of it
pub record AreVerdicts (m : MergedTop) (Is : ℕ → ℕ → Verdict → Type 0) (x : ℕ) (verdicts : List Verdict) : Type 0 where
  pub count : (xbar : XbarDesc) → CrossbarIs (design_of m) x xbar → length verdicts ≡ length xbar.nodes
  pub each : (n : ℕ) (v : Verdict) → slice_get verdicts n ≡ Some v → Is x n v

-- there are as many verdicts as there are nodes
pub record HaveCounts (m : MergedTop) (all : List (List Verdict)) : Type 0 where
  pub count : length all ≡ length m.xbars
  pub each : (x : ℕ) (verdicts : List Verdict) (xbar : XbarDesc) → slice_get all x ≡ Some verdicts → CrossbarIs (design_of m) x xbar → length verdicts ≡ length xbar.nodes

-- so has each node of each crossbar
pub record HaveVerdicts (m : MergedTop) (Is : ℕ → ℕ → Verdict → Type 0) (all : List (List Verdict)) : Type 0 where
  pub counts : HaveCounts m all
  pub each : (x n : ℕ) (verdicts : List Verdict) (v : Verdict) → slice_get all x ≡ Some verdicts → slice_get verdicts n ≡ Some v → Is x n v
